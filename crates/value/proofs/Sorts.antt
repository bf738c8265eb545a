-- THE SORT OF A VALUE: its kind is that of its letter, a number fits its size, a float is the one of its bits, and a time has the unit of its type.
use mathlib.Core.Path.{◌≡◌, refl, sym, subst}
use Prim.Native.Nat.{ℕ, ◌-◌, ◌/◌, ◌^◌, ◌<◌, ◌≤◌}
use native.Mathlib.Omega.{arith}
use native.Mathlib.Decide.{dec_lt}
use mathlib.Core.Bool.{Bool as Truth, true, false, not, cond}
use mathlib.Core.List.{List}
use lib.Dec.{eqb, ltb}
use lib.IntN.{pos, negsuc}
use lib.ListN.{length, take, drop}
use borrow.Author.Tests.{le-leb, lt-leb, eqb-true}
use Rattle.counts.specs.Lists.{AllBytes}
use Rattle.counts.specs.Outcome.{Outcome, gives, unless}
use Rattle.counts.proofs.Apart.{gives_apart, refused_gives}
use Rattle.number_bytes.specs.Numbers.{in_order}
use Rattle.number_bytes.proofs.Widths.{in_below}
use Rattle.type_str.specs.Rules.{allows}
use Rattle.type_str.specs.declared.TypeStr.{TypeStr}
use Rattle.type_str.specs.Text.{is_type}
use Rattle.type_letters.specs.declared.Endianness.{Endianness}
use Rattle.type_letters.specs.declared.TypeChar.{TypeChar}
use Rattle.type_letters.specs.declared.TypeChar.TheVariants.{Bool as Boolean, Int, Uint, Float as Floating, Complex, TimeDelta, DateTime, ByteStr, UnicodeStr, Object, RawData}
use Rattle.type_units.specs.declared.TimeUnits.{TimeUnits}
use Rattle.value_float.specs.Half.{half_of}
use Rattle.value_float.specs.Floats.{single_of, double_of}
use Rattle.value_float.proofs.Becomes.{half_becomes}
use Rattle.value.specs.declared.Value.{Value}
use Rattle.value.specs.Values.{form_of, has_no_value, most_of, signed_by, signed_in, value_by, read_value}
use Rattle.value.specs.Sorts.{InSize, ValueSort}
use Rattle.value.specs.Sizes.{IntegerSize}
use Rattle.value.proofs.Forms.{type_allows}
use Rattle.value.proofs.Runs.{at_most_bytes, eight_whole, by_width}

within : (n m : ℕ) → IntegerSize n → m ≤ most_of n → InSize n (signed_by (most_of n) m)
unfolding signed_by
within n m w le = elim (dec_lt (most_of n / 2) m) [
  | yes h ↦ subst (λ (t : Truth). InSize n (cond t (pos m) (negsuc (most_of n - m)))) (sym (lt-leb m (most_of n / 2) h)) (omega (arith))
  | no h ↦ subst (λ (t : Truth). InSize n (cond t (pos m) (negsuc (most_of n - m)))) (sym (le-leb m (most_of n / 2) (omega arith))) (omega (arith, some n w))
]
  where
    some : (n : ℕ) → IntegerSize n → 0 < 256 ^ n
    some = by_width (λ n. 0 < 256 ^ n) (omega arith) (omega arith) (omega arith) (omega arith)

module _ (o : Endianness) (u : TimeUnits) (run : List ℕ) (bytes : AllBytes run) (v : Value) where
  signed_within : (n : ℕ) → length run ≡ n → IntegerSize n → InSize n (signed_in o run)
  signed_within n e w = subst (λ (k : ℕ). InSize k (signed_in o run)) e
      (within (length run) (in_order o run) (subst IntegerSize (sym e) w) (at_most_bytes o run bytes (subst IntegerSize (sym e) w)))

  sort_by : (l : TypeChar) (n : ℕ) → allows l n ≡ true → length run ≡ n → value_by (form_of l n) o u run ≡ gives v → ValueSort l n u v
  unfolding form_of value_by
  sort_by Boolean n a e h = go (ltb 1 (in_order o run)) h
    where
      go : (s : Truth) → unless s 32 (gives (Value.Bool (eqb (in_order o run) 1))) ≡ gives v → (b : Truth) × (v ≡ Value.Bool b)
      go true h = refused_gives h
      go false h = (eqb (in_order o run) 1, sym (gives_apart h))
  sort_by Int n a e h = (signed_in o run, sym (gives_apart h), signed_within n e a)
  sort_by Uint n a e h = (in_order o run, sym (gives_apart h), subst (λ (k : ℕ). in_order o run < 256 ^ k) e (in_below o run bytes))
  sort_by Floating n a e h = (
    λ k. (half_of (in_order o run), sym (gives_apart (at k)), (half_becomes (in_order o run)).number_of_bits),
    λ k. (single_of (in_order o run), sym (gives_apart (at k)), refl),
    λ k. (double_of (in_order o run), sym (gives_apart (at k)), refl),
    λ k. refused_gives (at k),
  )
    where
      at : {m : ℕ} → n ≡ m → value_by (form_of Floating m) o u run ≡ gives v
      at {m} k = subst (λ (j : ℕ). value_by (form_of Floating j) o u run ≡ gives v) k h
  sort_by Complex n a e h = (
    λ k. (single_of (in_order o (take 4 run)), (single_of (in_order o (drop 4 run)), sym (gives_apart (at k)), refl, refl)),
    λ k. (double_of (in_order o (take 8 run)), (double_of (in_order o (drop 8 run)), sym (gives_apart (at k)), refl, refl)),
    λ k. refused_gives (at k),
  )
    where
      at : {m : ℕ} → n ≡ m → value_by (form_of Complex m) o u run ≡ gives v
      at {m} k = subst (λ (j : ℕ). value_by (form_of Complex j) o u run ≡ gives v) k h
  sort_by TimeDelta n a e h = (signed_in o run, sym (gives_apart h), signed_within n e (eight_whole n (eqb-true n 8 a)))
  sort_by DateTime n a e h = (signed_in o run, sym (gives_apart h), signed_within n e (eight_whole n (eqb-true n 8 a)))
  sort_by ByteStr n a e h = refused_gives h
  sort_by UnicodeStr n a e h = refused_gives h
  sort_by Object n a e h = refused_gives h
  sort_by RawData n a e h = refused_gives h

module _ (t : TypeStr) (run : List ℕ) (v : Value) (bytes : AllBytes run) where
  pub sort_of : read_value t run ≡ gives v → ValueSort t.letter t.size t.units v
  unfolding read_value
  sort_of h = go (is_type t) (has_no_value (form_of t.letter t.size)) (eqb (length run) t.size) refl refl h
    where
      go : (a b c : Truth) → is_type t ≡ a → eqb (length run) t.size ≡ c
          → unless (not a) 27 (unless b 31 (unless (not c) 27 (value_by (form_of t.letter t.size) t.order t.units run))) ≡ gives v → ValueSort t.letter t.size t.units v
      go false b c e f h = refused_gives h
      go true true c e f h = refused_gives h
      go true false false e f h = refused_gives h
      go true false true e f h = sort_by t.order t.units run bytes v t.letter t.size (type_allows t e) (eqb-true (length run) t.size f) h

pub read_allows : (t : TypeStr) (run : List ℕ) (v : Value) → read_value t run ≡ gives v → allows t.letter t.size ≡ true
unfolding read_value
read_allows t run v h = go (is_type t) _ refl h
  where
    go : (a : Truth) (o : Outcome Value) → is_type t ≡ a → unless (not a) 27 o ≡ gives v → allows t.letter t.size ≡ true
    go true o e h = type_allows t e
    go false o e h = refused_gives h
