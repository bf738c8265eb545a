-- The claims of document 02's wish 1 (specs/Values.antt). An element that is named has the value of its bytes (`value_after` of element), so what holds of bytes and a type holds of each element.
use Rattle.refusal.specs.Answers.{answer}
use Rattle.std.specs.Prelude.{Ok}
use Prim.Native.Nat.{ℕ, ◌*◌, ◌<◌}
use native.Mathlib.Omega.{arith}
use mathlib.Core.Path.{◌≡◌, refl, sym, ap, subst, ◌∙◌}
use mathlib.Core.Logic.{◌⊎◌, inl, inr}
use mathlib.Core.Bool.{Bool as Truth, true, false, not, cond, ◌||◌}
use mathlib.Core.List.{List, [], ◌∷◌}
use lib.Dec.{eqb, ltb}
use lib.ListN.{length, drop}
use borrow.Author.Tests.{lt-ltb, ltb-true, eqb-true, not-false}
use Rattle.counts.specs.Outcome.{Outcome, gives, refused, then, unless}
use Rattle.counts.specs.Lists.{AllBytes}
use Rattle.counts.proofs.Alike.{true_false}
use Rattle.counts.proofs.Apart.{gives_refused, refused_apart}
use Rattle.counts.proofs.Holds.{unless_back, then_back}
use Rattle.type_letters.specs.Letters.{is_object, is_unicode}
use Rattle.type_letters.specs.declared.Endianness.{Endianness}
use Rattle.type_letters.specs.declared.Endianness.TheVariants.{Little, Big, Irrelevant}
use Rattle.type_letters.specs.declared.TypeChar.{TypeChar}
use Rattle.type_letters.specs.declared.TypeChar.TheVariants.{Bool as Boolean, Int, Uint, Float as Floating, Complex, TimeDelta, DateTime, ByteStr, UnicodeStr, Object, RawData}
use Rattle.type_units.specs.declared.TimeUnits.{TimeUnits}
use Rattle.number_bytes.specs.Numbers.{in_order}
use Rattle.type_str.specs.Rules.{allows}
use Rattle.type_str.specs.declared.TypeStr.{TypeStr}
use Rattle.type_str.specs.Text.{is_type}
use Rattle.type_str.specs.Bytes.{plain_bytes}
use Rattle.dtype.specs.declared.Order.{Order}
use Rattle.dtype.specs.declared.Order.TheVariants.{C, Fortran}
use Rattle.dtype.specs.Places.{place}
use Rattle.place_area.specs.declared.Run.{Run}
use Rattle.place.specs.Place.{run_from, place_of}
use Rattle.value_float.specs.declared.Single.{Single}
use Rattle.value_float.specs.Half.{half_of}
use Rattle.value_float.proofs.Becomes.{widened_becomes, half_becomes}
use Rattle.value_float.proofs.OneFloat.{becomes_one}
use Rattle.value_float.proofs.Edges as halves
use Rattle.value_float.proofs.FloatEdges.{float_edges}
use Rattle.value.specs.declared.Value.{Value}
use Rattle.value.specs.declared.Form.{Form}
use Rattle.value.specs.Values.{form_of, has_no_value, value_by, value_in, read_value}
use Rattle.value.specs.Stored.{value_bytes}
use Rattle.value.proofs.Forms.{type_allows, value_of_run}
use Rattle.value.proofs.Stored.{bytes_take, bytes_drop, stored_back}
use Rattle.value.proofs.Sorts.{sort_of}
use Rattle.value.proofs.Edges as values
use Rattle.value.proofs.Outcomes.{value_one}
use Rattle.element.specs.Bytes.{run_bytes}
use Rattle.element.specs.Element.{element_value}
use Rattle.element.proofs.Placed.{value_refused}
use Rattle.element.proofs.Typed.{place_typed, place_long, value_after}
use Rattle.npy_codes.specs.Codes.{order_number, order_for, type_for}
use Rattle.npy_codes.specs.Values.{value_values}
use Rattle.npy_codes.proofs.Then.{returns_same}
use Rattle.npy_codes.proofs.Said.{said_back}
use Rattle.npy_codes.proofs.ValueEdges.{said_edges}
use Rattle.record.proofs.Numbers.{then_numbered}
use Rattle.claims.specs.Doors.{Door, in_rattle, in_c}
use Rattle.claims.specs.Exact.{ByOrder, ByType}
use Rattle.claims.specs.Values.{ElementIs, ValueIs, ValueByItself, ValuesExact, ValuesExactInC, ValuesSorted, BitsStored, BitsStoredInC, HalvesExact, no_value, ValueRefused, RefusedExactly, ValueRefusals}
use Rattle.claims.proofs.Doors.{rattle_fails, c_fails, c_returned, exactly_by}
use Rattle.claims.proofs.Found.{found_value, order_named, order_back, values_for_type}
use Rattle.claims.proofs.Exact.{named_place, place_named, order_names, type_names, by_number, number_by_lem}
use Rattle.claims.proofs.Numbers.{for_numbered, type_for_numbered, read_value_numbered, element_value_numbered}

-- ---- an element that is named
module _ (file : List ℕ) (start : ℕ) (t ns s : List ℕ) (o : Order) (x p : List ℕ) where
  abbrev at : Outcome Run
  at = place_of (length file) start t ns s o x p

  abbrev whole : Outcome Value
  whole = element_value file start t ns s o x p

  at_element : (u : Run) → at ≡ gives u → ElementIs file start t ns s o x p u.kind (run_bytes file u)
  at_element u e =
      let (a, n, is) = place_named (length file) start t ns s o x p u e in
      subst (λ (v : Run). ElementIs file start t ns s o x p v.kind (run_bytes file v)) is (record { says = a.0; named = n; are = refl })

  module _ (k : TypeStr) (bytes : List ℕ) (e : ElementIs file start t ns s o x p k bytes) where
    element_in : whole ≡ value_in k bytes
    element_in =
        value_after file start t ns s o x p
        ∙ ap (λ (c : Outcome Run). then c (λ u. value_in u.kind (run_bytes file u))) (named_place (length file) start t ns s o x p (e.says, k) e.named)
        ∙ ap (value_in k) (sym e.are)

    element_read : whole ≡ read_value k bytes
    unfolding element_value
    element_read =
        ap (λ (c : Outcome Run). then c (λ u. read_value u.kind (run_bytes file u))) (named_place (length file) start t ns s o x p (e.says, k) e.named)
        ∙ ap (read_value k) (sym e.are)

    element_bytes : AllBytes file → AllBytes bytes
    element_bytes h =
        let u = run_from (place start e.says x p) k in
        subst AllBytes (sym e.are) (bytes_take u.len.0 (drop u.first.0 file) (bytes_drop u.first.0 file h))

    element_stored : AllBytes file → (v : Value) → whole ≡ gives v → value_bytes k.order k.size v ≡ bytes
    element_stored h v w = stored_back k bytes v (element_bytes h) (sym element_read ∙ w)

  value_due : (v : Value) → ValueIs file start t ns s o x p v → whole ≡ gives v
  value_due v d = element_in d.kind d.bytes d.element ∙ d.is

  value_found : (v : Value) → whole ≡ gives v → ValueIs file start t ns s o x p v
  value_found v e =
      let (u, placed_at_lem, of_run) = then_back at _ v (sym (value_after file start t ns s o x p) ∙ e) in
      record { kind = u.kind; bytes = run_bytes file u; element = at_element u placed_at_lem; is = of_run }

-- ---- by itself
module _ (run : List ℕ) (k : TypeStr) where
  itself_due : (v : Value) → ValueByItself run k v → read_value k run ≡ gives v
  itself_due v d = value_of_run k run d.typed (λ e. d.long) ∙ d.is

  itself_found : (v : Value) → read_value k run ≡ gives v → ValueByItself run k v
  unfolding read_value
  itself_found v e =
      let (typed, of_type) = unless_back (not (is_type k)) 27 _ v e in
      let (_, of_form) = unless_back (has_no_value (form_of k.letter k.size)) 31 _ v of_type in
      let (long, is) = unless_back (not (eqb (length run) k.size)) 27 _ v of_form in
      record { typed = not-false (is_type k) typed; long = eqb-true (length run) k.size (not-false (eqb (length run) k.size) long); is = is }

-- ---- in C, of an order that a number names
by_order : (file : List ℕ) (start : ℕ) (t ns s : List ℕ) (order : ℕ) (x p : List ℕ) (o : Order) → order ≡ order_number o
    → then (order_for order) (λ o. element_value file start t ns s o x p) ≡ element_value file start t ns s o x p
by_order file start t ns s order x p o is = ap (λ (g : Outcome Order). then g (λ o. element_value file start t ns s o x p)) (ap order_for is ∙ order_back o)

pub values_exact : ValuesExact
values_exact =
    record {
      element_value = λ file start t ns s o x p y h.
          exactly_by in_rattle _ (λ v. v) (λ v m. m) tt (answer y) tt (element_value file start t ns s o x p) h.answered (rattle_fails _)
          (λ v d. (value_due file start t ns s o x p v d, refl)) (λ v e. (v, value_found file start t ns s o x p v e));
      read_value = λ run k y h.
          exactly_by in_rattle _ (λ v. v) (λ v m. m) tt (answer y) tt (read_value k run) h.answered (rattle_fails _)
          (λ v d. (itself_due run k v d, refl)) (λ v e. (v, itself_found run k v e));
    }

pub values_exact_in_c : ValuesExactInC
values_exact_in_c =
    record {
      npy_element_value = λ file start t ns s order x p said r said' h.
          let next : Order → Outcome Value = λ o. element_value file start t ns s o x p in
          let Due : Order → Value → Type 0 = λ o. ValueIs file start t ns s o x p in
          exactly_by (in_c value_values said) (ByOrder order Due) (λ v. v) (λ v m. m) tt (r, said') tt (then (order_for order) next) (c_returned h.answered)
          (c_fails value_values said _ (then_numbered (order_for order) next (for_numbered order) (λ o. element_value_numbered file start t ns s o x p)))
          (λ v d. (by_number (order_for order) _ _ Due (order_names order Due) next (λ v. v) (λ o v d. value_due file start t ns s o x p v d) v d, refl))
          (number_by_lem (order_for order) _ _ Due (order_names order Due) next (λ o v e. (v, value_found file start t ns s o x p v e)));
      npy_read_value = λ run order letter size units said r said' h.
          let named = type_for order letter size units in
          let next : TypeStr → Outcome Value = λ k. read_value k run in
          let Due : TypeStr → Value → Type 0 = ValueByItself run in
          let names = type_names order letter size units Due (λ k v d. d.typed) in
          exactly_by (in_c value_values said) (ByType order letter size units Due) (λ v. v) (λ v m. m) tt (r, said') tt (then named next) (c_returned h.answered)
          (c_fails value_values said _ (then_numbered named next (type_for_numbered order letter size units) (λ k. read_value_numbered k run)))
          (λ v d. (by_number named _ _ Due names next (λ v. v) (λ k v d. itself_due run k v d) v d, refl))
          (number_by_lem named _ _ Due names next (λ k v e. (v, itself_found run k v e)));
    }

pub values_sorted : ValuesSorted
values_sorted =
    record {
      element_value = λ file start t ns s o x p v h k bytes e.
          sort_of k bytes v (element_bytes file start t ns s o x p k bytes e h.bytes) (sym (element_read file start t ns s o x p k bytes e) ∙ sym h.answered);
      read_value = λ run k v h. sort_of k run v h.bytes (sym h.answered);
      edges = values.edges;
      float_edges = float_edges;
      said_edges = said_edges;
    }

-- ---- the exact bits
pub bits_stored : BitsStored
bits_stored =
    record {
      element_value = λ file start t ns s o x p v h k bytes e. element_stored file start t ns s o x p k bytes e h.bytes v (sym h.answered);
      read_value = λ run k v h. stored_back k run v h.bytes (sym h.answered);
    }

pub bits_stored_in_c : BitsStoredInC
bits_stored_in_c =
    record {
      npy_element_value = λ file start t ns s order x p said said' h o k bytes is e.
          let named = by_order file start t ns s order x p o is in
          let (v, given_is, values) = found_value (element_value file start t ns s o x p) (element_value_numbered file start t ns s o x p) (returns_same named h.answered) in
          (v, value_found file start t ns s o x p v given_is, values, said_back k bytes v (element_bytes file start t ns s o x p k bytes e h.bytes) (sym (element_read file start t ns s o x p k bytes e) ∙ given_is));
      npy_read_value = λ run order letter size units said said' h.
          let named = type_for order letter size units in
          let next : TypeStr → Outcome Value = λ k. read_value k run in
          let (v, given_is, values) = found_value (then named next) (then_numbered named next (type_for_numbered order letter size units) (λ k. read_value_numbered k run)) h.answered in
          let (k, named_is, is) = then_back named next v given_is in
          (k, values_for_type order letter size units k named_is, (v, itself_found run k v is, values, said_back k run v h.bytes is));
    }

-- ---- half floats
half_form : (k : TypeStr) → k.letter ≡ Floating → k.size ≡ 2 → form_of k.letter k.size ≡ Form.Half
unfolding form_of
half_form k l n = rw (l, n)

half_in : (k : TypeStr) (bytes : List ℕ) → k.letter ≡ Floating → k.size ≡ 2 → value_in k bytes ≡ gives (Value.Single (half_of (in_order k.order bytes)))
unfolding value_by
half_in k bytes l n = ap (λ (f : Form). value_by f k.order k.units bytes) (half_form k l n)

half_value : (file : List ℕ) (start : ℕ) (t ns s : List ℕ) (o : Order) (x p : List ℕ) (k : TypeStr) (bytes : List ℕ) → ElementIs file start t ns s o x p k bytes
    → k.letter ≡ Floating → k.size ≡ 2 → element_value file start t ns s o x p ≡ gives (Value.Single (half_of (in_order k.order bytes)))
half_value file start t ns s o x p k bytes e l n = element_in file start t ns s o x p k bytes e ∙ half_in k bytes l n

pub halves_exact : HalvesExact
halves_exact =
    record {
      element_value = λ file start t ns s o x p y h k bytes e l n.
          let b = in_order k.order bytes in
          (half_of b, half_becomes b, value_one _ y (Ok (Value.Single (half_of b))) (h.answered ∙ half_value file start t ns s o x p k bytes e l n) refl);
      npy_element_value = λ file start t ns s order x p said c said' h o k bytes is e l n.
          let b = in_order k.order bytes in
          let w = returns_same (by_order file start t ns s order x p o is ∙ half_value file start t ns s o x p k bytes e l n) h.answered in
          (half_of b, half_becomes b, w.answered, w.after);
      rule = λ s x t hx ht. widened_becomes s x t hx ht;
      one = λ s x t l. becomes_one s x t l;
      edges = halves.edges;
    }

-- ---- 31 and 32
-- the types without values are those that are read in no form
none_form : (l : TypeChar) (n : ℕ) → no_value l n ≡ true → form_of l n ≡ Form.NoValue
unfolding form_of
none_form Boolean n h = true_false (sym h)
none_form Int n h = true_false (sym h)
none_form Uint n h = true_false (sym h)
none_form Floating n h = rw (eqb-true n 16 h)
none_form Complex n h = rw (eqb-true n 32 h)
none_form TimeDelta n h = true_false (sym h)
none_form DateTime n h = true_false (sym h)
none_form ByteStr n h = refl
none_form UnicodeStr n h = refl
none_form Object n h = refl
none_form RawData n h = refl

form_none : (l : TypeChar) (n : ℕ) → allows l n ≡ true → has_no_value (form_of l n) ≡ true → no_value l n ≡ true
unfolding form_of
form_none Boolean n a h = true_false (sym h)
form_none Int n a h = true_false (sym h)
form_none Uint n a h = true_false (sym h)
form_none Floating n a h = go (eqb n 2) (eqb n 4) (eqb n 8) (eqb n 16) a h
  where
    go : (b c d e : Truth) → (b || c || d || e) ≡ true → has_no_value (cond b Form.Half (cond c Form.Single (cond d Form.Double Form.NoValue))) ≡ true → e ≡ true
    go true c d e a h = true_false (sym h)
    go false true d e a h = true_false (sym h)
    go false false true e a h = true_false (sym h)
    go false false false e a h = a
form_none Complex n a h = go (eqb n 8) (eqb n 16) (eqb n 32) a h
  where
    go : (b c d : Truth) → (b || c || d) ≡ true → has_no_value (cond b Form.SinglePair (cond c Form.DoublePair Form.NoValue)) ≡ true → d ≡ true
    go true c d a h = true_false (sym h)
    go false true d a h = true_false (sym h)
    go false false d a h = a
form_none TimeDelta n a h = true_false (sym h)
form_none DateTime n a h = true_false (sym h)
form_none ByteStr n a h = refl
form_none UnicodeStr n a h = refl
form_none Object n a h = refl
form_none RawData n a h = refl

abbrev is_bool : Form → Truth
is_bool Form.Bool = true
is_bool Form.Signed = false
is_bool Form.Unsigned = false
is_bool Form.Half = false
is_bool Form.Single = false
is_bool Form.Double = false
is_bool Form.SinglePair = false
is_bool Form.DoublePair = false
is_bool Form.Time = false
is_bool Form.NoValue = false

form_bool : (l : TypeChar) (n : ℕ) → is_bool (form_of l n) ≡ true → l ≡ Boolean
unfolding form_of
form_bool Boolean n h = refl
form_bool Int n h = true_false (sym h)
form_bool Uint n h = true_false (sym h)
form_bool Floating n h = go (eqb n 2) (eqb n 4) (eqb n 8) h
  where
    go : (b c d : Truth) → is_bool (cond b Form.Half (cond c Form.Single (cond d Form.Double Form.NoValue))) ≡ true → Floating ≡ Boolean
    go true c d h = true_false (sym h)
    go false true d h = true_false (sym h)
    go false false true h = true_false (sym h)
    go false false false h = true_false (sym h)
form_bool Complex n h = go (eqb n 8) (eqb n 16) h
  where
    go : (b c : Truth) → is_bool (cond b Form.SinglePair (cond c Form.DoublePair Form.NoValue)) ≡ true → Complex ≡ Boolean
    go true c h = true_false (sym h)
    go false true h = true_false (sym h)
    go false false h = true_false (sym h)
form_bool TimeDelta n h = true_false (sym h)
form_bool DateTime n h = true_false (sym h)
form_bool ByteStr n h = true_false (sym h)
form_bool UnicodeStr n h = true_false (sym h)
form_bool Object n h = true_false (sym h)
form_bool RawData n h = true_false (sym h)

-- no form refuses but these two
refused_form : (f : Form) (o : Endianness) (u : TimeUnits) (run : List ℕ) (n : ℕ) → value_by f o u run ≡ refused n
    → ((n ≡ 31) × (has_no_value f ≡ true)) ⊎ ((n ≡ 32) × (is_bool f ≡ true) × (1 < in_order o run))
unfolding value_by
refused_form Form.Bool o u run n h = go (ltb 1 (in_order o run)) refl h
  where
    go : (b : Truth) → ltb 1 (in_order o run) ≡ b → unless b 32 (gives (Value.Bool (eqb (in_order o run) 1))) ≡ refused n
        → ((n ≡ 31) × (has_no_value Form.Bool ≡ true)) ⊎ ((n ≡ 32) × (is_bool Form.Bool ≡ true) × (1 < in_order o run))
    go true e h = inr (sym (refused_apart h), refl, ltb-true 1 (in_order o run) e)
    go false e h = gives_refused h
refused_form Form.Signed o u run n h = gives_refused h
refused_form Form.Unsigned o u run n h = gives_refused h
refused_form Form.Half o u run n h = gives_refused h
refused_form Form.Single o u run n h = gives_refused h
refused_form Form.Double o u run n h = gives_refused h
refused_form Form.SinglePair o u run n h = gives_refused h
refused_form Form.DoublePair o u run n h = gives_refused h
refused_form Form.Time o u run n h = gives_refused h
refused_form Form.NoValue o u run n h = inl (sym (refused_apart h), refl)

none_in : (k : TypeStr) (bytes : List ℕ) → no_value k.letter k.size ≡ true → value_in k bytes ≡ refused 31
unfolding value_by
none_in k bytes h = ap (λ (f : Form). value_by f k.order k.units bytes) (none_form k.letter k.size h)

one_byte : (o : Endianness) (b : ℕ) → in_order o (b ∷ []) ≡ b
unfolding in_order
one_byte Little b = omega arith
one_byte Big b = omega arith
one_byte Irrelevant b = omega arith

single_byte : (run : List ℕ) → length run ≡ 1 → (b : ℕ) × (run ≡ b ∷ [])
single_byte [] e = absurd (omega (arith, e))
single_byte (b ∷ []) e = (b, refl)
single_byte (b ∷ c ∷ run) e = absurd (omega (arith, e))

bool_in_lem : (k : TypeStr) (bytes : List ℕ) (b : ℕ) → k.letter ≡ Boolean → bytes ≡ b ∷ [] → 1 < b → value_in k bytes ≡ refused 32
unfolding form_of value_by
bool_in_lem k bytes b l e h = rw (l, e, one_byte k.order b, lt-ltb 1 b h)

-- the bytes of a bool are one byte
bool_bytes : (k : TypeStr) (n : ℕ) → is_type k ≡ true → k.letter ≡ Boolean → n ≡ plain_bytes k → n ≡ 1
bool_bytes k n typed l e =
    let size : k.size ≡ 1 = eqb-true k.size 1 (ap (λ (c : TypeChar). allows c k.size) (sym l) ∙ type_allows k typed) in
    e ∙ ap (λ (c : TypeChar). cond (is_object c) 0 (cond (is_unicode c) (4 * k.size) k.size)) l ∙ size

module _ (file : List ℕ) (start : ℕ) (t ns s : List ℕ) (o : Order) (x p : List ℕ) where
  refused_due : (n : ℕ) → ValueRefused file start t ns s o x p n → element_value file start t ns s o x p ≡ refused n
  refused_due n (inl e) = sym (value_refused file start t ns s o x p n (sym e))
  refused_due n (inr (inl (is, w))) = element_in file start t ns s o x p w.kind w.bytes w.element ∙ none_in w.kind w.bytes w.is ∙ ap refused (sym is)
  refused_due n (inr (inr (is, w))) =
      let b = w.is.1 in
      element_in file start t ns s o x p w.kind w.bytes w.element ∙ bool_in_lem w.kind w.bytes b.0 w.is.0 b.1 b.2 ∙ ap refused (sym is)

  due_at : (n : ℕ) (c : Outcome Run) → place_of (length file) start t ns s o x p ≡ c → then c (λ u. value_in u.kind (run_bytes file u)) ≡ refused n → ValueRefused file start t ns s o x p n
  due_at n (refused m) e h = inl (e ∙ ap refused (refused_apart h))
  due_at n (gives u) e h = go (refused_form (form_of u.kind.letter u.kind.size) u.kind.order u.kind.units (run_bytes file u) n h)
    where
      typed : is_type u.kind ≡ true
      typed = place_typed (length file) start x p u t ns s o e

      byte : u.kind.letter ≡ Boolean → (b : ℕ) × (run_bytes file u ≡ b ∷ [])
      byte l = single_byte (run_bytes file u) (bool_bytes u.kind (length (run_bytes file u)) typed l (place_long file start x p u t ns s o e))

      go : ((n ≡ 31) × (has_no_value (form_of u.kind.letter u.kind.size) ≡ true))
          ⊎ ((n ≡ 32) × (is_bool (form_of u.kind.letter u.kind.size) ≡ true) × (1 < in_order u.kind.order (run_bytes file u))) → ValueRefused file start t ns s o x p n
      go (inl (is, none)) =
          inr (inl (
            is,
            record {
              kind = u.kind;
              bytes = run_bytes file u;
              element = at_element file start t ns s o x p u e;
              is = form_none u.kind.letter u.kind.size (type_allows u.kind typed) none;
            },
          ))
      go (inr (is, bool, above)) =
          let l = form_bool u.kind.letter u.kind.size bool in
          let b = byte l in
          inr (inr (
            is,
            record {
              kind = u.kind;
              bytes = run_bytes file u;
              element = at_element file start t ns s o x p u e;
              is = (l, (b.0, b.1, subst (λ (m : ℕ). 1 < m) (ap (in_order u.kind.order) b.1 ∙ one_byte u.kind.order b.0) above));
            },
          ))

  value_refused_by : {R : Type 0} (door : Door Value R) (y : R) → y ≡ door.returned (element_value file start t ns s o x p)
      → ((v : Value) → door.success (door.returned (gives v)) ≡ true) → RefusedExactly door (ValueRefused file start t ns s o x p) y
  value_refused_by door y is succeeds =
      record {
        all = λ n d. is ∙ ap door.returned (refused_due n d);
        only = λ f. go (element_value file start t ns s o x p) refl f;
      }
    where
      go : (c : Outcome Value) → element_value file start t ns s o x p ≡ c → door.success y ≡ false → (n : ℕ) × ValueRefused file start t ns s o x p n
      go (gives v) e f = true_false (sym (succeeds v) ∙ sym (ap (λ (c : Outcome Value). door.success (door.returned c)) e) ∙ sym (ap door.success is) ∙ f)
      go (refused n) e f = (n, due_at n _ refl (sym (value_after file start t ns s o x p) ∙ e))

no_order : (order : ℕ) → ((o : Order) → order ≡ order_number o → ⊥) → order_for order ≡ refused 27
no_order order none = go (order_for order) refl
  where
    go : (c : Outcome Order) → order_for order ≡ c → order_for order ≡ refused 27
    go (gives o) e = absurd (none o (order_named order o e))
    go (refused n) e = only (eqb order 0) (eqb order 1) refl refl
      where
        only : (a b : Truth) → eqb order 0 ≡ a → eqb order 1 ≡ b → order_for order ≡ refused 27
        only true b f g = absurd (none C (eqb-true order 0 f))
        only false true f g = absurd (none Fortran (eqb-true order 1 g))
        only false false f g = rw (f, g)

pub value_refusals : ValueRefusals
value_refusals =
    record {
      element_value = λ file start t ns s o x p y h. value_refused_by file start t ns s o x p in_rattle (answer y) h.answered (λ v. refl);
      npy_element_value = λ file start t ns s order x p said r said' h o is.
          value_refused_by file start t ns s o x p (in_c value_values said) (r, said') (c_returned (returns_same (by_order file start t ns s order x p o is) h.answered)) (λ v. refl);
      npy_no_order = λ file start t ns s order x p said r said' h none.
          let w = returns_same (ap (λ (g : Outcome Order). then g (λ o. element_value file start t ns s o x p)) (no_order order none)) h.answered in
          (w.answered, w.after);
    }
