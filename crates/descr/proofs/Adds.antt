-- The totals of a dtype are made of those of its parts: of fields one after the other, of a record's own entry and its fields, of a sub-shape and its
-- type, of a name and a type. So are the verdicts, where a refusal of the first part comes first. By recursion on nothing: each law is one step of the
-- definitions.
use Rattle.counts.specs.declared.Bytes.{Bytes}
use Rattle.std.specs.Prelude.{Option}
use Prim.Native.Nat.{ℕ, zero, suc, ◌+◌, ◌*◌, ◌^◌, ◌≤◌}
use native.Mathlib.Omega.{arith}
use mathlib.Core.Path.{◌≡◌, refl, sym, ap, ◌∙◌}
use mathlib.Core.List.{List}
use mathlib.Core.Bool.{Bool, true, false, ◌||◌, not, cond, or-false, or-true}
use lib.Dec.{ltb}
use lib.ListN.{length}
use native.Mathlib.Nat.{mul-suc}
use borrow.Author.Tests.{leb-true}
use Rattle.counts.specs.Outcome.{Outcome, gives, refused, then, each, unless}
use Rattle.counts.specs.Counts.{bytes_over, as_bytes, held_bytes}
use Rattle.counts.proofs.Alike.{false_true}
use Rattle.counts.proofs.Counted.{bytes_eq, bytes_test}
use Rattle.literal_grammar.specs.Value.{Value, Values, string, integer, True, False, None, list, tuple, dict, end_of_values, value_then}
use Rattle.type_str.specs.declared.TypeStr.{TypeStr}
use Rattle.type_str.specs.TypeString.{type_string}
use Rattle.dtype.specs.Dtype.{Dtype, Fields, plain, record_of, field_then, size_of, sizes_of}
use Rattle.dtype.specs.Entries.{some_entry_in, levels}
use Rattle.dtype.specs.Limits.{over, some_over, over_levels}
use Rattle.record.specs.Parts.{string_or}
use Rattle.record.specs.Dimensions.{sub_shape}
use Rattle.record.specs.Descr.{Field, arrays, descr_of, fields_of, field_of, two_or_three, named_of}
use Rattle.record.proofs.Levels.{arrays_entries, arrays_name_bytes}
use Rattle.shape_verdict.specs.Outline.{has_zero, after_zero, outline_of, largest_in}
use Rattle.shape_verdict.proofs.Levels.{largest_is, arrays_outline, arrays_over, arrays_wide, arrays_object}
use Rattle.descr_totals.specs.declared.Totals.{Totals}
use Rattle.descr_totals.specs.Totals.{at_most, largest, name_totals, totals_of, totals_in, field_totals, together, arrayed}
use Rattle.descr_totals.specs.Verdict.{both}
use Rattle.descr_totals.proofs.Sums.{totals_eq, over_never, over_not, over_more, held_bytes_lem, cap_front, nothing, one_entry}
use Rattle.descr_totals.proofs.Limits.{own_over}

over_front : (n : ℕ) → over (0 + at_most largest n) ≡ false
over_front n = over_never (0 + at_most largest n) (omega arith)

-- ---- fields
cap_two : (m a b : ℕ) → at_most m (a + b) ≡ at_most m (at_most m (0 + at_most m a) + at_most m b)
cap_two m a b = omega arith

cap_three : (m a b c : ℕ) → at_most m (a + (b + c)) ≡ at_most m (at_most m (at_most m a + at_most m b) + at_most m c)
cap_three m a b c = omega arith

over_fields : (own inner : Bool) (a b : ℕ) → (over a ≡ true → own ≡ true)
    → ((own || inner) || over (a + b)) ≡ (((own || over (0 + at_most largest a)) || (inner || over b)) || over (at_most largest (0 + at_most largest a) + at_most largest b))
over_fields true inner a b h = refl
over_fields false inner a b h = rw (over_front a) (rest inner (over a) refl)
  where
    last : over a ≡ false → (t : Bool) → over b ≡ t → over (a + b) ≡ (t || over (at_most largest (0 + at_most largest a) + at_most largest b))
    last ha true hb = over_more b (a + b) (omega arith) hb
    last ha false hb =
        let la = over_not a ha in
        let lb = over_not b hb in
        let e : a + b ≡ at_most largest (0 + at_most largest a) + at_most largest b = omega arith in
        ap over e

    rest : (i t : Bool) → over a ≡ t → (i || over (a + b)) ≡ ((i || over b) || over (at_most largest (0 + at_most largest a) + at_most largest b))
    rest true t ha = refl
    rest false true ha = false_true (h ha)
    rest false false ha = last ha (over b) refl

fields_totals : (f : Field) (fs : Fields) → totals_in (field_then f.name f.type fs) ≡ together (field_totals f) (totals_in fs)
unfolding together
fields_totals f fs =
    totals_eq (cap_two 513 _ _) (cap_three 65537 (length f.name) _ _) refl refl
    (over_fields (some_over f.type) (some_entry_in (λ e. over (size_of e)) fs) (size_of f.type) (sizes_of fs) (own_over f.type))
    (bytes_eq (cap_two largest (size_of f.type) (sizes_of fs)))

fields_both : (a : Outcome Field) (b : Outcome Fields) → each totals_in (then a (λ f. each (field_then f.name f.type) b)) ≡ both (each field_totals a) (each totals_in b)
fields_both (gives f) (gives fs) = ap gives (fields_totals f fs)
fields_both (gives f) (refused m) = refl
fields_both (refused n) b = refl

-- the fields of a record, left to right
abbrev pub fields_by : Values → Outcome Totals
fields_by vs = each totals_in (fields_of vs)

abbrev pub field_by : Value → Outcome Totals
field_by v = each field_totals (field_of v)

pub fields_step : (v : Value) (vs : Values) → fields_by (value_then v vs) ≡ both (field_by v) (fields_by vs)
fields_step v vs = fields_both (field_of v) (fields_of vs)

or_nothing : (a x : Bool) → x ≡ false → a ≡ (a || x)
or_nothing a x h = rw h (sym (or-false a))

fields_none : (o : Outcome Fields) → both (gives nothing) (each totals_in o) ≡ each totals_in o
unfolding together
fields_none (gives fs) =
    ap gives (sym (totals_eq (sym (cap_front 513 _)) (sym (cap_front 65537 _)) refl refl (or_nothing _ _ (over_front (sizes_of fs))) (bytes_eq (sym (cap_front largest _)))))
fields_none (refused n) = refl

pub fields_start : (vs : Values) → both (gives nothing) (fields_by vs) ≡ fields_by vs
fields_start vs = fields_none (fields_of vs)

-- ---- a record and its own entry
over_record : (inner x : Bool) (n : ℕ) → x ≡ false → (over n || inner) ≡ ((inner || over n) || x)
over_record inner x n h = rw h (go inner (over n))
  where
    go : (i o : Bool) → (o || i) ≡ ((i || o) || false)
    go true true = refl
    go true false = refl
    go false true = refl
    go false false = refl

cap_one : (m n : ℕ) → at_most m (suc n) ≡ at_most m (1 + at_most m n)
cap_one m n = omega arith

record_both : (o : Outcome Fields) → each totals_of (each record_of o) ≡ both (gives one_entry) (each totals_in o)
unfolding together
record_both (gives fs) = ap gives (totals_eq (cap_one 513 _) (sym (cap_front 65537 _)) refl refl (over_record _ _ (sizes_of fs) (over_front (sizes_of fs))) (bytes_eq (sym (cap_front largest _))))
record_both (refused n) = refl

pub record_step : (vs : Values) → each totals_of (descr_of (list vs)) ≡ both (gives one_entry) (fields_by vs)
record_step vs = record_both (fields_of vs)

-- ---- a sub-shape and its type
abbrev Flat : Outcome Dtype → Type 0
Flat (gives d) = levels d ≡ 0
Flat (refused n) = Unit {0}

-- a descr is no array
flat : (v : Value) → Flat (descr_of v)
flat (string w) = go (type_string w)
  where
    go : (o : Outcome TypeStr) → Flat (each plain o)
    go (gives t) = refl
    go (refused n) = tt
flat (integer minus n) = tt
flat True = tt
flat False = tt
flat None = tt
flat (list vs) = go (fields_of vs)
  where
    go : (o : Outcome Fields) → Flat (each record_of o)
    go (gives t) = refl
    go (refused n) = tt
flat (tuple vs) = tt
flat (dict es) = tt

-- a size that is capped, so many times
cap_times : (b s : ℕ) → at_most largest (b * at_most largest s) ≡ at_most largest (b * s)
cap_times b s = go (over s) refl
  where
    many : (b : ℕ) → largest ≤ s → at_most largest (b * largest) ≡ at_most largest (b * s)
    many zero le = omega arith
    many (suc b) le = omega (arith, mul-suc s b)

    go : (t : Bool) → over s ≡ t → at_most largest (b * at_most largest s) ≡ at_most largest (b * s)
    go true h =
        let le = leb-true (2 ^ 64) s h in
        let e : at_most largest s ≡ largest = omega arith in
        rw e (many b (omega arith))
    go false h =
        let lt = over_not s h in
        let e : at_most largest s ≡ s = omega arith in
        rw e

over_levels_lem : (ns : List ℕ) (s : ℕ) (own : Bool) → (over s ≡ true → own ≡ true) → (over (after_zero ns * s) || own) ≡ (bytes_over (largest_in (outline_of ns) (at_most largest s)) || own)
over_levels_lem ns s true h = or-true (over (after_zero ns * s)) ∙ sym (or-true (bytes_over (largest_in (outline_of ns) (at_most largest s))))
over_levels_lem ns s false h = ap (λ (t : Bool). t || false) (go (over s) refl)
  where
    go : (t : Bool) → over s ≡ t → over (after_zero ns * s) ≡ bytes_over (largest_in (outline_of ns) (at_most largest s))
    go true k = false_true (h k)
    go false k =
        let lt = over_not s k in
        let e : at_most largest s ≡ s = omega arith in
        sym (ap (λ (x : ℕ). bytes_over (largest_in (outline_of ns) x)) e ∙ (ap (λ (x : Option Bytes). bytes_over x) (largest_is ns s) ∙ bytes_test (after_zero ns * s)))

cap_right : (m a b : ℕ) → at_most m (a + b) ≡ at_most m (a + at_most m b)
cap_right m a b = omega arith

held_levels : (ns : List ℕ) (s : ℕ)
    → as_bytes (at_most largest (cond (has_zero ns) 0 (after_zero ns * s))) ≡ cond (has_zero ns) (as_bytes 0) (held_bytes (largest_in (outline_of ns) (at_most largest s)))
held_levels ns s = go (has_zero ns)
  where
    go : (t : Bool) → as_bytes (at_most largest (cond t 0 (after_zero ns * s))) ≡ cond t (as_bytes 0) (held_bytes (largest_in (outline_of ns) (at_most largest s)))
    go true = refl
    go false =
        sym (ap (λ (x : Option Bytes). held_bytes x) (largest_is ns (at_most largest s)) ∙ (held_bytes_lem (after_zero ns * at_most largest s) ∙ bytes_eq (cap_times (after_zero ns) s)))

arrays_totals : (ns : List ℕ) (d : Dtype) → levels d ≡ 0 → totals_of (arrays ns d) ≡ arrayed (outline_of ns) (totals_of d)
unfolding arrayed outline_of
arrays_totals ns d h =
    let e : length ns + levels d ≡ length ns = omega arith in
    totals_eq (ap (λ (x : ℕ). at_most 513 x) (arrays_entries ns d) ∙ cap_right 513 (length ns) _) (ap (λ (x : ℕ). at_most 65537 x) (arrays_name_bytes ns d)) (arrays_object ns d)
    (arrays_wide ns d ∙ ap (λ (x : ℕ). ltb 32 x || over_levels d) e)
    (arrays_over ns d ∙ over_levels_lem ns (size_of d) (some_over d) (own_over d))
    (bytes_eq (ap (λ (x : ℕ). at_most largest x) (arrays_outline ns d)) ∙ held_levels ns (size_of d))

-- ---- a field's items: its name, its inner descr, perhaps its sub-shape
-- a value as a name
abbrev pub name_by : Value → Outcome Totals
name_by v = each (λ w. name_totals (length w)) (string_or 14 v)

abbrev pub descr_by : Value → Outcome Totals
descr_by v = each totals_of (descr_of v)

-- what is after a field's inner descr, by the verdicts on its name and on that descr: nothing more, or its sub-shape
abbrev pub after_inner_by : Outcome Totals → Outcome Totals → Values → Outcome Totals
after_inner_by x y end_of_values = both x y
after_inner_by x y (value_then v end_of_values) = both x (then y (λ t. each (λ o. arrayed o t) (each outline_of (sub_shape v))))
after_inner_by x y (value_then v (value_then w vs)) = refused 14

two_by : (x : Outcome (List ℕ)) (o : Outcome Dtype)
    → both (each (λ w. name_totals (length w)) x) (each totals_of o) ≡ each field_totals (then x (λ w. each (λ d. record { name = w; type = d }) (then o (λ d. gives d))))
two_by (gives w) (gives d) = refl
two_by (gives w) (refused m) = refl
two_by (refused n) o = refl

three_by : (x : Outcome (List ℕ)) (o : Outcome Dtype) (sh : Outcome (List ℕ)) → Flat o
    → both (each (λ w. name_totals (length w)) x) (then (each totals_of o) (λ t. each (λ u. arrayed u t) (each outline_of sh)))
    ≡ each field_totals (then x (λ w. each (λ d. record { name = w; type = d }) (then o (λ d. each (λ ns. arrays ns d) sh))))
three_by (gives w) (gives d) (gives ns) h = ap (λ (t : Totals). gives (together (name_totals (length w)) t)) (sym (arrays_totals ns d h))
three_by (gives w) (gives d) (refused m) h = refl
three_by (gives w) (refused m) sh h = refl
three_by (refused n) o sh h = refl

-- items as a field's: their count first
abbrev pub field_of_items : Values → Outcome Totals
field_of_items vs = each field_totals (unless (not (two_or_three vs)) 14 (named_of vs))

pub two_items : (a b : Value) → both (name_by a) (descr_by b) ≡ field_of_items (value_then a (value_then b end_of_values))
two_items a b = two_by (string_or 14 a) (descr_of b)

pub three_items : (a b c : Value)
    → both (name_by a) (then (descr_by b) (λ t. each (λ u. arrayed u t) (each outline_of (sub_shape c)))) ≡ field_of_items (value_then a (value_then b (value_then c end_of_values)))
three_items a b c = three_by (string_or 14 a) (descr_of b) (sub_shape c) (flat b)
