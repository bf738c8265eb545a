-- What a call of a reader or of the writer that succeeded has done, of a Rattle function and of its C function alike: what the header was, and what the rooms hold; the
-- record that was written, and its bytes.
use Rattle.refusal.specs.declared.Refusal.{Refusal}
use Rattle.header.specs.declared.Header.{Header}
use Rattle.std.specs.Prelude.{Result}
use Prim.Native.Nat.{ℕ}
use native.Mathlib.Omega.{arith}
use mathlib.Core.Path.{◌≡◌, refl, sym, ap, ◌∙◌}
use mathlib.Core.Bool.{Bool, false, true, cond}
use mathlib.Core.List.{List, [], ◌∷◌}
use lib.Dec.{eqb}
use Rattle.counts.specs.Outcome.{Outcome, gives, refused, each, afterwards}
use Rattle.counts.proofs.Apart.{gives_apart, refused_gives}
use Rattle.counts.proofs.Holds.{each_back}
use borrow.Author.Tests.{leb-true, eqb-true}
use Rattle.type_str.specs.declared.TypeStr.{TypeStr}
use Rattle.type_str.specs.Text.{is_type}
use Rattle.dtype.specs.TypeNumbers.{order_byte, letter_byte, units_number}
use Rattle.dtype.specs.declared.Order.{Order}
use Rattle.dtype.specs.declared.Order.TheVariants.{C, Fortran}
use Rattle.dtype.specs.Record.{Record, table, names}
use Rattle.record.specs.Rooms.{Lent, rooms_of, holding}
use Rattle.record.specs.Header as header
use Rattle.check_record.specs.Checked.{checked_record}
use Rattle.table_entry.proofs.Types.{type_of_written, type_of_back}
use Rattle.judge.specs.Judged.{reading}
use Rattle.judge.proofs.Top.{reading_keeps}
use Rattle.header.specs.Reads.{HeaderInfo, header_info, header_answer, held_into}
use Rattle.read_back.specs.Rooms.{table_stored, names_stored, shape_stored, Fronts}
use Rattle.read_back.proofs.Rooms.{fronts_by, checked_fronts}
use Rattle.read_back.proofs.Accepted.{read_checked}
use Rattle.npy_codes.specs.Codes.{Returns, order_number, order_for, type_for, type_values, header_values}
use Rattle.claims.specs.Functions.{Read}
use Rattle.claims.specs.InC.{NpyRead}
use Rattle.record.proofs.Numbers.{Numbered, each_numbered}
use Rattle.claims.proofs.Numbers.{held_header_numbered}

-- ---- 0 in C is a value
pub found_value : {A : Type 0} {values : A → List ℕ} {said said' : List ℕ} (o : Outcome A) → Numbered o → Returns values o said 0 said' → (a : A) × (o ≡ gives a) × (said' ≡ values a)
found_value (gives a) h t = (a, refl, t.after)
found_value (refused n) h t = absurd (let one = leb-true 1 n h.so.0 in let is = t.answered in omega arith)

-- ---- the numbers of orders
pub order_named : (order : ℕ) (o : Order) → order_for order ≡ gives o → order ≡ order_number o
order_named order o e = go (eqb order 0) (eqb order 1) refl refl e
  where
    go : (a b : Bool) → eqb order 0 ≡ a → eqb order 1 ≡ b → cond a (gives C) (cond b (gives Fortran) (refused 27)) ≡ gives o → order ≡ order_number o
    go true b f g h = let same : C ≡ o = gives_apart h in eqb-true order 0 f ∙ ap order_number same
    go false true f g h = let same : Fortran ≡ o = gives_apart h in eqb-true order 1 g ∙ ap order_number same
    go false false f g h = refused_gives h

pub order_back : (o : Order) → order_for (order_number o) ≡ gives o
order_back C = refl
order_back Fortran = refl

-- ---- the numbers of types
module _ (order letter size units : ℕ) (k : TypeStr) where
  pub type_for_values : order ≡ order_byte k.order → letter ≡ letter_byte k.letter → size ≡ k.size → units ≡ units_number k.units → is_type k ≡ true
      → type_for order letter size units ≡ gives k
  type_for_values a b c d typed = type_of_written _ k (record { order = a; letter = b; number = c; units = d }) ∙ simp typed

  pub values_for_type : type_for order letter size units ≡ gives k → ◌≡◌ {A = List ℕ} (order ∷ letter ∷ size ∷ units ∷ []) (type_values k)
  values_for_type e = let w = type_of_back _ k e in rw (w.order, w.letter, w.number, w.units)

-- ---- a header that was read
pub record WasRead (file : List ℕ) (l l' : Lent) (i : HeaderInfo) : Type 0 where
  pub header_found : header.Header
  pub given : held_into false file l ≡ gives header_found
  pub values : i ≡ header_info header_found
  pub held : l' ≡ holding header_found.says l

pub read_was : (file : List ℕ) (l l' : Lent) (x : Result Header Refusal) (i : HeaderInfo) → Read file l x l' → header_answer x ≡ gives i → WasRead file l l' i
read_was file l l' x i h e =
    let (k, given_is, same) = each_back header_info (held_into false file l) i (sym (h.answered reading reading_keeps) ∙ e) in
    record {
      header_found = k;
      given = given_is;
      values = sym same;
      held = h.after reading reading_keeps ∙ ap (λ (o : Outcome header.Header). afterwards header.holding_header o l) given_is;
    }

pub npy_read_was : (file : List ℕ) (l l' : Lent) (said said' : List ℕ) → NpyRead file l said 0 l' said' → (i : HeaderInfo) × (said' ≡ header_values i) × WasRead file l l' i
npy_read_was file l l' said said' h =
    let o = held_into false file l in
    let (i, e, v) = found_value (each header_info o) (each_numbered header_info o (held_header_numbered reading false file l)) (h.answered reading reading_keeps) in
    let (k, given_is, same) = each_back header_info o i e in (
      i,
      v,
      record {
        header_found = k;
        given = given_is;
        values = sym same;
        held = h.after reading reading_keeps ∙ ap (λ (o : Outcome header.Header). afterwards header.holding_header o l) given_is;
      },
    )

module _ (file : List ℕ) (l l' : Lent) (i : HeaderInfo) (w : WasRead file l l' i) where
  abbrev pub says : Record
  says = w.header_found.says

  pub in_rooms : Fronts (table says.dtype) (names says.dtype) says.shape says.order i.info l'
  in_rooms = fronts_by says l l' i.info (ap (λ (t : HeaderInfo). t.info) w.values) w.held

  pub by_whole : header.held_by reading false file l ≡ gives w.header_found
  by_whole = w.given

  -- the check accepts what was read
  pub in_rooms_checked : checked_record (table_stored i.info l') (names_stored i.info l') (shape_stored i.info l') i.info.order ≡ gives says
  in_rooms_checked = checked_fronts says i.info l' in_rooms (read_checked reading reading_keeps file (rooms_of l) w.header_found by_whole)
