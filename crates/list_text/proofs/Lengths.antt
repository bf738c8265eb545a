-- HOW LONG A LISTING IS: at most 1,476 bytes before the table, 78 for each entry, and two for each byte of a name. Every number is below 2^64 and so has at most 20 digits.
-- By induction over the dtype that the table lists.
use Rattle.std.specs.Prelude.{None, Some, Option}
use Rattle.counts.specs.declared.Bytes.{Bytes}
use Prim.Native.Nat.{ℕ, zero, suc, ◌+◌, ◌*◌, ◌^◌, ◌<◌, ◌≤◌}
use native.Mathlib.Omega.{arith}
use mathlib.Core.Path.{◌≡◌, refl, ap}
use mathlib.Core.Bool.{Bool, true, false, ◌||◌, ◌&&◌, not, cond}
use mathlib.Core.List.{List, [], ◌∷◌}
use lib.Dec.{ltb}
use lib.ListN.{length, drop, length-take}
use borrow.Author.Tests.{leb-false, ltb-false}
use Rattle.counts.specs.Outcome.{Outcome, gives, refused}
use Rattle.counts.proofs.Holds.{unless_passed, unless_gives}
use Rattle.decimal.proofs.Lengths.{printed_u64}
use Rattle.literal_grammar.proofs.Lengths.{quote_length}
use Rattle.type_str.specs.declared.TypeStr.{TypeStr}
use Rattle.type_str.proofs.Lengths.{type_length, type_size}
use Rattle.dtype.specs.declared.Order.{Order}
use Rattle.dtype.specs.declared.Order.TheVariants.{C, Fortran}
use Rattle.dtype.specs.declared.Entry.{Entry}
use Rattle.dtype.specs.Dtype.{Dtype, Fields, plain, array, record_of, end_of_fields, field_then, size_of}
use Rattle.dtype.specs.Entries.{field_count, entries_of, entries_in, has_object}
use Rattle.dtype.specs.Record.{name_bytes_of, name_bytes_in, entry_width, flat, flats, Record, table, names}
use Rattle.dtype.specs.EntryOf.{number_column}
use Rattle.dtype.specs.Shape.{product, strides}
use Rattle.dtype.specs.Limits.{over, over_dimensions, over_levels, over_entries, over_size, some_over, any_over, over_shape, limited}
use Rattle.dtype.specs.Agrees.{entry_at, name_start}
use Rattle.dtype.specs.Seen.{name_at}
use Rattle.dtype.proofs.Strides.{strides_length}
use Rattle.dtype.proofs.Flat.{some_entry_lem}
use Rattle.dtype.proofs.InTable.{in_table_entry, in_table_below, in_table_after}
use Rattle.dtype.proofs.Seen.{or_left, or_right, size_fits}
use Rattle.record.specs.Prefix.{Version, one_zero, two_zero, three_zero, major}
use Rattle.record.specs.Sound.{Small}
use Rattle.record.proofs.Sound.{Good, AllGood, Sound}
use Rattle.check_record.specs.Answer.{item_size}
use Rattle.table_entry.specs.EntryType.{type_of}
use Rattle.table_entry.proofs.Types.{type_of_back}
use Rattle.list_text.specs.Listing.{spaced_numbers, version_line, order_line, shape_line, strides_line, count_line, item_line, data_line, parent_text, type_text_in, kind_text, is_field, name_text, entry_line, entry_lines, listing}

-- ---- one entry
parent_length : (e p : ℕ) (x : List ℕ) → p < 2 ^ 64 → length (parent_text e p x) ≤ 20 + length x
parent_length zero p x h = omega arith
parent_length (suc e) p x h = printed_u64 p x h

kind_length : (k : ℕ) (e : Entry) (x : List ℕ) → e.number < 2 ^ 64 → length (kind_text k e x) ≤ 32 + length x
kind_length zero e x h = omega (arith, go (type_of e) refl)
  where
    go : (o : Outcome TypeStr) → type_of e ≡ o → length (type_text_in o x) ≤ 26 + length x
    go (gives t) g = type_length t x (omega (arith, (type_of_back e t g).number, h))
    go (refused n) g = omega arith
kind_length (suc zero) e x h = omega (arith, printed_u64 e.number x h)
kind_length (suc (suc k)) e x h = omega (arith, printed_u64 e.number x h)

name_length : (field : Bool) (name x : List ℕ) → length (name_text field name x) ≤ 3 + 2 * length name + length x
name_length true name x = omega (arith, quote_length name x)
name_length false name x = omega arith

numbers_length : (s x : List ℕ) → Small s → length (spaced_numbers s x) ≤ 21 * length s + length x
numbers_length [] x h = omega arith
numbers_length (n ∷ s) x h = omega (arith, printed_u64 n (spaced_numbers s x) h.0, numbers_length s x h.1)

-- ---- the entries
fields_few : (fs : Fields) → field_count fs ≤ entries_in fs
fields_few end_of_fields = omega arith
fields_few (field_then name d fs) = omega (arith, some_entry_lem d, fields_few fs)

number_small : (d : Dtype) → Good d → entries_of d ≤ 2 ^ 64 → number_column d < 2 ^ 64
number_small (plain t) h k = type_size t h
number_small (array n d) h k = h.0
number_small (record_of fs) h k = omega (arith, k, fields_few fs)

module _ (t ns : List ℕ) where
  -- one line: its name is no longer than the entry says
  line_length : (d : Dtype) (e up m : ℕ) (x y : List ℕ) → e < 2 ^ 64 → up < 2 ^ 64 → number_column d < 2 ^ 64 → drop (entry_width * e) t ≡ flat d e up m x
      → length (entry_line t e (name_at t ns e) y) ≤ 78 + 2 * m + length y
  line_length d e up m x y he hup hn h =
      let i = in_table_entry d t e up m x h in
      let entry = entry_at t e in
      let p : entry.parent ≡ up = ap (λ (a : Entry). a.parent) i in
      let n : entry.number ≡ number_column d = ap (λ (a : Entry). a.number) i in
      let w : entry.name ≡ m = ap (λ (a : Entry). a.name) i in
      let name = name_at t ns e in
      let at_name = name_text (is_field t e) name (10 ∷ y) in
      let at_kind = kind_text entry.kind entry at_name in
      omega (
        arith,
        printed_u64 e (32 ∷ parent_text e entry.parent (32 ∷ at_kind)) he,
        parent_length e entry.parent (32 ∷ at_kind) (omega (arith, p, hup)),
        kind_length entry.kind entry at_name (omega (arith, n, hn)),
        name_length (is_field t e) name (10 ∷ y),
        length-take entry.name (drop (name_start t e) ns),
        w,
      )

  lines_split : (a b e : ℕ) (y : List ℕ) → entry_lines (a + b) e t ns y ≡ entry_lines a e t ns (entry_lines b (e + a) t ns y)
  lines_split zero b e y =
      let p : 0 + b ≡ b = omega arith in
      let q : e + 0 ≡ e = omega arith in
      rw (p, q)
  lines_split (suc a) b e y =
      let p : suc a + b ≡ suc (a + b) = omega arith in
      let q : suc e + a ≡ e + suc a = omega arith in
      rw (p, ← q) (ap (entry_line t e (name_at t ns e)) (lines_split a b (suc e) y))

  mutual
    lines_length : (d : Dtype) (e up m : ℕ) (x y : List ℕ) → Good d → e + entries_of d ≤ 2 ^ 64 → up < 2 ^ 64 → drop (entry_width * e) t ≡ flat d e up m x
        → length (entry_lines (entries_of d) e t ns y) ≤ 78 * entries_of d + 2 * (m + name_bytes_of d) + length y
    lines_length (plain ty) e up m x y g k u h =
        omega (arith, line_length (plain ty) e up m x y (omega arith) u (number_small (plain ty) g (omega arith)) h)
    lines_length (array n d) e up m x y g k u h =
        omega (
          arith,
          line_length (array n d) e up m x (entry_lines (entries_of d) (suc e) t ns y) (omega arith) u (number_small (array n d) g (omega arith)) h,
          lines_length d (suc e) e 0 x y g.1 (omega arith) (omega arith) (in_table_below (array n d) t e up m x h),
        )
    lines_length (record_of fs) e up m x y g k u h =
        omega (
          arith,
          line_length (record_of fs) e up m x (entry_lines (entries_in fs) (suc e) t ns y) (omega arith) u (number_small (record_of fs) g (omega arith)) h,
          fields_length fs (suc e) e x y g (omega arith) (omega arith) (in_table_below (record_of fs) t e up m x h),
        )

    fields_length : (fs : Fields) (e up : ℕ) (x y : List ℕ) → AllGood fs → e + entries_in fs ≤ 2 ^ 64 → up < 2 ^ 64 → drop (entry_width * e) t ≡ flats fs e up x
        → length (entry_lines (entries_in fs) e t ns y) ≤ 78 * entries_in fs + 2 * name_bytes_in fs + length y
    fields_length end_of_fields e up x y g k u h = omega arith
    fields_length (field_then name d fs) e up x y g k u h =
        let after = flats fs (e + entries_of d) up x in
        rw (lines_split (entries_of d) (entries_in fs) e y)
        (omega (
          arith,
          lines_length d e up (length name) after (entry_lines (entries_in fs) (e + entries_of d) t ns y) g.1 (omega arith) u h,
          fields_length fs (e + entries_of d) up x y g.2 (omega arith) u (in_table_after d t e up (length name) after h),
        ))

-- ---- the lines before the table
version_length : (v : Version) (x : List ℕ) → length (version_line v x) ≤ 31 + length x
version_length v x = omega (arith, printed_u64 (major v) (46 ∷ 48 ∷ 10 ∷ x) (major_small v))
  where
    major_small : (v : Version) → major v < 2 ^ 64
    major_small one_zero = omega arith
    major_small two_zero = omega arith
    major_small three_zero = omega arith

order_length : (o : Order) (x : List ℕ) → length (order_line o x) ≡ 8 + length x
order_length C x = omega arith
order_length Fortran x = omega arith

item_length : (d : Dtype) (x : List ℕ) → over_size d ≡ false → length (item_line (item_size d) x) ≤ 26 + length x
item_length d x h = go (has_object d) h
  where
    go : (b : Bool) → (not b && some_over d) ≡ false → length (item_line (cond {A = Option Bytes} b None (Some (record { 0 = size_of d }))) x) ≤ 26 + length x
    go true h = omega arith
    go false h = omega (arith, printed_u64 (size_of d) (10 ∷ x) (size_fits d h))

small_any : (s : List ℕ) → any_over s ≡ false → Small s
small_any [] h = tt
small_any (n ∷ s) h = (leb-false (2 ^ 64) n (or_left (over n) (any_over s) h), small_any s (or_right (over n) (any_over s) h))

-- ---- the whole
-- what the limits say of the numbers that are listed
record Listed (r : Record) : Type 0 where
  few : length r.shape ≤ 32
  entries : entries_of r.dtype ≤ 512
  size : over_size r.dtype ≡ false
  count : product r.shape < 2 ^ 64
  steps : Small (strides r.order r.shape)

within : (r : Record) → limited r ≡ gives r → Listed r
unfolding limited over_shape
within r l =
    let d = r.dtype in
    let s = r.shape in
    let l₁ = unless_gives (over_dimensions s || over_levels d) 13 _ l in
    let l₂ = unless_gives (over_entries d) 20 _ l₁ in
    let l₃ = unless_gives (over_size d) 21 _ l₂ in
    let shape = unless_passed (over_shape r.order s) 22 _ l₃ in
    record {
      few = ltb-false 32 (length s) (or_left (over_dimensions s) (over_levels d) (unless_passed (over_dimensions s || over_levels d) 13 _ l));
      entries = ltb-false 512 (entries_of d) (or_left (ltb 512 (entries_of d)) (ltb 65536 (name_bytes_of d)) (unless_passed (over_entries d) 20 _ l₁));
      size = unless_passed (over_size d) 21 _ l₂;
      count = leb-false (2 ^ 64) (product s) (or_left (over (product s)) (any_over (strides r.order s)) shape);
      steps = small_any (strides r.order s) (or_right (over (product s)) (any_over (strides r.order s)) shape);
    }

pub listing_length : (v : Version) (start : ℕ) (r : Record) (x : List ℕ) → start < 2 ^ 64 → Sound r → limited r ≡ gives r
    → length (listing v start r x) ≤ 1476 + 78 * entries_of r.dtype + 2 * name_bytes_of r.dtype + length x
unfolding listing
listing_length v start r x hs sound l =
    let d = r.dtype in
    let s = r.shape in
    let w = within r l in
    let at_table = entry_lines (entries_of d) 0 (table d) (names d) x in
    let at_data = data_line start at_table in
    let at_item = item_line (item_size d) at_data in
    let at_count = count_line (product s) at_item in
    let at_strides = strides_line (strides r.order s) at_count in
    let at_shape = shape_line s at_strides in
    omega (
      arith,
      version_length v (order_line r.order at_shape),
      order_length r.order at_shape,
      numbers_length s (10 ∷ at_strides) sound.small,
      w.few,
      numbers_length (strides r.order s) (10 ∷ at_count) w.steps,
      strides_length r.order s,
      printed_u64 (product s) (10 ∷ at_item) w.count,
      item_length d at_data w.size,
      printed_u64 start (10 ∷ at_table) hs,
      lines_length (table d) (names d) d 0 0 0 [] x sound.good (omega (arith, w.entries)) (omega arith) refl,
    )
