-- The form of a type's values: how many bytes it has, and the checks in their order.
use mathlib.Core.Path.{◌≡◌, refl, sym, ap, ◌∙◌, subst}
use Prim.Native.Nat.{ℕ, ◌*◌, ◌^◌}
use mathlib.Core.Bool.{Bool as Truth, true, false, not, cond}
use mathlib.Core.List.{List}
use lib.Dec.{eqb, leb}
use lib.ListN.{length}
use borrow.Author.Tests.{eqb-true, eq-eqb, ne_eqb}
use Rattle.counts.specs.Outcome.{Outcome, gives, refused, unless, given}
use Rattle.counts.proofs.Alike.{and_left, true_false}
use Rattle.type_letters.specs.declared.TypeChar.{TypeChar}
use Rattle.type_letters.specs.declared.TypeChar.TheVariants.{Bool as Boolean, Int, Uint, Float as Floating, Complex, TimeDelta, DateTime, ByteStr, UnicodeStr, Object, RawData}
use Rattle.type_letters.specs.Letters.{is_object, is_unicode}
use Rattle.type_str.specs.Rules.{allows}
use Rattle.type_letters.specs.declared.Endianness.{Endianness}
use Rattle.type_units.specs.declared.TimeUnits.{TimeUnits}
use Rattle.type_str.specs.declared.TypeStr.{TypeStr}
use Rattle.type_str.specs.TypeString.{lacks_order, misplaces_units, validated, checked}
use Rattle.type_str.specs.Text.{is_type}
use Rattle.type_str.specs.Bytes.{plain_bytes}
use Rattle.value.specs.declared.Value.{Value}
use Rattle.value.specs.declared.Form.{Form}
use Rattle.value.specs.Values.{form_of, has_no_value, value_by, value_in, read_value}
use Rattle.value.specs.Sizes.{Sized}

-- ---- a type has a size that its letter allows
passes : {A : Type 0} (t : Truth) (n : ℕ) (o : Outcome A) → given (unless t n o) ≡ true → (t ≡ false) × (given o ≡ true)
passes true n o h = true_false (sym h)
passes false n o h = (refl, h)

shown : (t : Truth) → not t ≡ false → t ≡ true
shown true h = refl
shown false h = true_false h

pub type_allows : (t : TypeStr) → is_type t ≡ true → allows t.letter t.size ≡ true
unfolding is_type checked validated
type_allows t h =
    let a = passes (leb (2 ^ 64) t.size) 16 (validated t) (and_left (given (checked t)) (cond (is_object t.letter) (eqb t.size 0) true) h) in
    let b = passes (lacks_order t) 17 (unless (not (allows t.letter t.size)) 18 (unless (misplaces_units t) 19 (gives t))) a.1 in
    shown (allows t.letter t.size) (passes (not (allows t.letter t.size)) 18 (unless (misplaces_units t) 19 (gives t)) b.1).0

sized_by_lem : (l : TypeChar) (n : ℕ) → allows l n ≡ true → Sized (form_of l n) n
unfolding form_of
sized_by_lem Boolean n h = eqb-true n 1 h
sized_by_lem Int n h = h
sized_by_lem Uint n h = h
sized_by_lem Floating n h = go (eqb n 2) (eqb n 4) (eqb n 8) refl refl refl
  where
    go : (a b c : Truth) → eqb n 2 ≡ a → eqb n 4 ≡ b → eqb n 8 ≡ c → Sized (cond a Form.Half (cond b Form.Single (cond c Form.Double Form.NoValue))) n
    go true b c e f g = eqb-true n 2 e
    go false true c e f g = eqb-true n 4 f
    go false false true e f g = eqb-true n 8 g
    go false false false e f g = tt
sized_by_lem Complex n h = go (eqb n 8) (eqb n 16) refl refl
  where
    go : (a b : Truth) → eqb n 8 ≡ a → eqb n 16 ≡ b → Sized (cond a Form.SinglePair (cond b Form.DoublePair Form.NoValue)) n
    go true b e f = eqb-true n 8 e
    go false true e f = eqb-true n 16 f
    go false false e f = tt
sized_by_lem TimeDelta n h = eqb-true n 8 h
sized_by_lem DateTime n h = eqb-true n 8 h
sized_by_lem ByteStr n h = tt
sized_by_lem UnicodeStr n h = tt
sized_by_lem Object n h = tt
sized_by_lem RawData n h = tt

pub sized : (t : TypeStr) (f : Form) (n : ℕ) → is_type t ≡ true → f ≡ form_of t.letter t.size → n ≡ t.size → Sized f n
sized t f n h e k = subst (λ (g : Form). Sized g n) (sym e) (subst (λ (m : ℕ). Sized (form_of t.letter t.size) m) (sym k) (sized_by_lem t.letter t.size (type_allows t h)))

pub sized_as : {f g : Form} (n : ℕ) → f ≡ g → Sized f n → Sized g n
sized_as n e h = subst (λ (x : Form). Sized x n) e h

-- in an arm the form is known
pub by_form : {f g : Form} {x : Outcome Value} (o : Endianness) (u : TimeUnits) (run : List ℕ) → f ≡ g → x ≡ value_by g o u run → x ≡ value_by f o u run
by_form {f} {g} {x} o u run e h = subst (λ (y : Form). x ≡ value_by y o u run) (sym e) h

-- ---- 27, 31, 27, and then the value
module _ (t : TypeStr) (run : List ℕ) where
  pub no_type_lem : is_type t ≡ false → refused 27 ≡ read_value t run
  unfolding read_value
  no_type_lem h = rw (read_value, h)

  module _ (h : is_type t ≡ true) where
    pub no_value_lem : has_no_value (form_of t.letter t.size) ≡ true → refused 31 ≡ read_value t run
    unfolding read_value
    no_value_lem k = rw (read_value, h, k)

    module _ (k : has_no_value (form_of t.letter t.size) ≡ false) where
      pub no_length : (length run ≡ t.size → ⊥) → refused 27 ≡ read_value t run
      unfolding read_value
      no_length n = rw (read_value, h, k, ne_eqb (length run) t.size n)

      pub as_value : length run ≡ t.size → value_by (form_of t.letter t.size) t.order t.units run ≡ read_value t run
      unfolding read_value
      as_value e = sym (rw (read_value, h, k, eq-eqb (length run) t.size e))

-- so of a run that is as long as its type, where that has values
pub value_of_run : (t : TypeStr) (run : List ℕ) → is_type t ≡ true → (has_no_value (form_of t.letter t.size) ≡ false → length run ≡ t.size) → read_value t run ≡ value_in t run
unfolding value_by
value_of_run t run h long = go (form_of t.letter t.size) refl
  where
    as_run : has_no_value (form_of t.letter t.size) ≡ false → read_value t run ≡ value_in t run
    as_run k = sym (as_value t run h k (long k))

    go : (f : Form) → form_of t.letter t.size ≡ f → read_value t run ≡ value_in t run
    go Form.Bool e = as_run (ap has_no_value e)
    go Form.Signed e = as_run (ap has_no_value e)
    go Form.Unsigned e = as_run (ap has_no_value e)
    go Form.Half e = as_run (ap has_no_value e)
    go Form.Single e = as_run (ap has_no_value e)
    go Form.Double e = as_run (ap has_no_value e)
    go Form.SinglePair e = as_run (ap has_no_value e)
    go Form.DoublePair e = as_run (ap has_no_value e)
    go Form.Time e = as_run (ap has_no_value e)
    go Form.NoValue e = sym (no_value_lem t run h (ap has_no_value e)) ∙ sym (ap (λ (f : Form). value_by f t.order t.units run) e)

-- what has values has as many bytes as its size
pub value_bytes_lem : (t : TypeStr) → has_no_value (form_of t.letter t.size) ≡ false → plain_bytes t ≡ t.size
unfolding form_of
value_bytes_lem t h = go t.letter h
  where
    go : (l : TypeChar) → has_no_value (form_of l t.size) ≡ false → cond (is_object l) 0 (cond (is_unicode l) (4 * t.size) t.size) ≡ t.size
    go Boolean h = refl
    go Int h = refl
    go Uint h = refl
    go Floating h = refl
    go Complex h = refl
    go TimeDelta h = refl
    go DateTime h = refl
    go ByteStr h = refl
    go UnicodeStr h = true_false h
    go Object h = true_false h
    go RawData h = refl
