-- THE EXACT BITS: the bytes of a value that was read are those that it was read from, for every type that has values. Both byte orders and all widths by one law (`out_in` of
-- number_bytes), half floats by `half_back` of value_float.
use mathlib.Core.Path.{◌≡◌, refl, sym, ap, ◌∙◌, subst}
use Prim.Native.Nat.{ℕ, zero, suc, ◌+◌, ◌-◌, ◌/◌, ◌^◌, ◌<◌, ◌≤◌}
use native.Mathlib.Omega.{arith}
use native.Mathlib.Decide.{dec_lt}
use mathlib.Core.Bool.{Bool as Truth, true, false, not, cond}
use mathlib.Core.List.{List, [], ◌∷◌, ◌++◌}
use lib.Dec.{eqb, ltb}
use lib.ListN.{length, take, drop, length-drop, take-append-drop}
use lib.Seq.{length-take-le}
use lib.IntN.{ℤ, pos, negsuc}
use borrow.Author.Tests.{le-leb, lt-leb, ltb-false, eqb-true, eqb-false, eq-eqb, ne_eqb}
use Rattle.counts.specs.Lists.{AllBytes}
use Rattle.counts.specs.Outcome.{gives, unless}
use Rattle.counts.proofs.Apart.{refused_gives, gives_apart}
use Rattle.number_bytes.specs.Numbers.{in_order, out_order}
use Rattle.number_bytes.proofs.Widths.{in_below, out_in}
use Rattle.value_float.specs.Half.{half_of}
use Rattle.value_float.proofs.Narrow.{half_back}
use Rattle.type_str.specs.declared.TypeStr.{TypeStr}
use Rattle.type_str.specs.Text.{is_type}
use Rattle.type_letters.specs.declared.Endianness.{Endianness}
use Rattle.type_units.specs.declared.TimeUnits.{TimeUnits}
use Rattle.value.specs.declared.Value.{Value}
use Rattle.value.specs.declared.Form.{Form}
use Rattle.value.specs.Values.{form_of, has_no_value, most_of, signed_by, signed_in, bool_of, value_by, read_value}
use Rattle.value.specs.Sizes.{IntegerSize, Sized}
use Rattle.value.specs.Stored.{complement, single_bits, value_bytes}
use Rattle.value.proofs.Forms.{sized}
use Rattle.value.proofs.Runs.{at_most_bytes, eight_whole}

complement_signed : (most n : ℕ) → n ≤ most → complement most (signed_by most n) ≡ n
unfolding signed_by
complement_signed most n le = elim (dec_lt (most / 2) n) [
  | yes h ↦ ap (λ (t : Truth). complement most (cond t (pos n) (negsuc (most - n)))) (lt-leb n (most / 2) h) ∙ back most n le
  | no h ↦ ap (λ (t : Truth). complement most (cond t (pos n) (negsuc (most - n)))) (le-leb n (most / 2) (omega arith))
]
  where
    back : (most n : ℕ) → n ≤ most → most - (most - n) ≡ n
    back most n le = omega arith

bool_number : (n : ℕ) (v : Value) (o : Endianness) (w : ℕ) → bool_of n ≡ gives v → value_bytes o w v ≡ out_order o w n
bool_number n v o w h = go (ltb 1 n) (eqb n 1) refl refl h
  where
    go : (s t : Truth) → ltb 1 n ≡ s → eqb n 1 ≡ t → unless s 32 (gives (Value.Bool t)) ≡ gives v → value_bytes o w v ≡ out_order o w n
    go true t e f h = refused_gives h
    go false true e f h = ap (value_bytes o w) (sym (gives_apart h)) ∙ ap (out_order o w) (sym (eqb-true n 1 f))
    go false false e f h =
        let z : n ≡ 0 = omega (arith, ltb-false 1 n e, eqb-false n 1 f) in
        ap (value_bytes o w) (sym (gives_apart h)) ∙ ap (out_order o w) (sym z)

pub bytes_take : (k : ℕ) (run : List ℕ) → AllBytes run → AllBytes (take k run)
bytes_take zero run h = tt
bytes_take (suc k) [] h = tt
bytes_take (suc k) (b ∷ run) h = (h.0, bytes_take k run h.1)

pub bytes_drop : (k : ℕ) (run : List ℕ) → AllBytes run → AllBytes (drop k run)
bytes_drop zero run h = h
bytes_drop (suc k) [] h = tt
bytes_drop (suc k) (b ∷ run) h = bytes_drop k run h.1

module _ (o : Endianness) (u : TimeUnits) (run : List ℕ) (bytes : AllBytes run) where
  whole : out_order o (length run) (in_order o run) ≡ run
  whole = out_in o run bytes

  halves : (k : ℕ) → length run ≡ k + k → out_order o k (in_order o (take k run)) ++ out_order o k (in_order o (drop k run)) ≡ run
  halves k e =
      let a : length (take k run) ≡ k = length-take-le k run (omega arith) in
      let b : length (drop k run) ≡ k = omega (arith, length-drop k run) in
      (λ i. out_order o (sym a i) (in_order o (take k run)) ++ out_order o (sym b i) (in_order o (drop k run)))
      ∙ (λ i. out_in o (take k run) (bytes_take k run bytes) i ++ out_in o (drop k run) (bytes_drop k run bytes) i)
      ∙ take-append-drop k run

  signed : (v : ℤ) → v ≡ signed_in o run → IntegerSize (length run) → out_order o (length run) (complement (most_of (length run)) v) ≡ run
  signed v e w =
      ap (λ (z : ℤ). out_order o (length run) (complement (most_of (length run)) z)) e
      ∙ ap (out_order o (length run)) (complement_signed (most_of (length run)) (in_order o run) (at_most_bytes o run bytes w))
      ∙ whole

  half : length run ≡ 2 → single_bits (length run) (half_of (in_order o run)).bits ≡ in_order o run
  half e = rw (eq-eqb (length run) 2 e) (half_back (in_order o run) (subst (λ (n : ℕ). in_order o run < 256 ^ n) e (in_below o run bytes)))

  single : length run ≡ 4 → single_bits (length run) (in_order o run) ≡ in_order o run
  single e = rw (ne_eqb (length run) 2 (λ z. omega (arith, e, z)))

  form_back : (f : Form) (v : Value) → Sized f (length run) → value_by f o u run ≡ gives v → value_bytes o (length run) v ≡ run
  unfolding value_by
  form_back Form.Bool v s h = bool_number (in_order o run) v o (length run) h ∙ whole
  form_back Form.Signed v s h = ap (value_bytes o (length run)) (sym (gives_apart h)) ∙ signed (signed_in o run) refl s
  form_back Form.Unsigned v s h = ap (value_bytes o (length run)) (sym (gives_apart h)) ∙ whole
  form_back Form.Half v s h = ap (value_bytes o (length run)) (sym (gives_apart h)) ∙ ap (out_order o (length run)) (half s) ∙ whole
  form_back Form.Single v s h = ap (value_bytes o (length run)) (sym (gives_apart h)) ∙ ap (out_order o (length run)) (single s) ∙ whole
  form_back Form.Double v s h = ap (value_bytes o (length run)) (sym (gives_apart h)) ∙ whole
  form_back Form.SinglePair v s h = ap (value_bytes o (length run)) (sym (gives_apart h)) ∙ halves 4 s
  form_back Form.DoublePair v s h = ap (value_bytes o (length run)) (sym (gives_apart h)) ∙ halves 8 s
  form_back Form.Time v s h = ap (value_bytes o (length run)) (sym (gives_apart h)) ∙ signed (signed_in o run) refl (eight_whole (length run) s)
  form_back Form.NoValue v s h = refused_gives h

-- of a type
module _ (t : TypeStr) (run : List ℕ) (v : Value) (bytes : AllBytes run) where
  abbrev form : Form
  form = form_of t.letter t.size

  pub stored_back : read_value t run ≡ gives v → value_bytes t.order t.size v ≡ run
  unfolding read_value
  stored_back h = go (is_type t) (has_no_value form) (eqb (length run) t.size) refl refl h
    where
      go : (a b c : Truth) → is_type t ≡ a → eqb (length run) t.size ≡ c
          → unless (not a) 27 (unless b 31 (unless (not c) 27 (value_by form t.order t.units run))) ≡ gives v → value_bytes t.order t.size v ≡ run
      go false b c e f h = refused_gives h
      go true true c e f h = refused_gives h
      go true false false e f h = refused_gives h
      go true false true e f h =
          let n : length run ≡ t.size = eqb-true (length run) t.size f in
          ap (λ (k : ℕ). value_bytes t.order k v) (sym n)
          ∙ form_back t.order t.units run bytes form v (sized t form (length run) e refl n) h
