-- The bytes of an element come back from the four numbers of its value.
use mathlib.Core.Path.{◌≡◌, refl, sym, ap, subst, ◌∙◌}
use Prim.Native.Nat.{ℕ, zero, suc, ◌+◌, ◌-◌, ◌*◌, ◌/◌, ◌%◌, ◌^◌, ◌<◌}
use native.Mathlib.Nat.{pow-suc, mul_assoc}
use native.Mathlib.Omega.{arith}
use mathlib.Core.Bool.{true, ◌||◌}
use mathlib.Core.List.{List, ◌∷◌, ◌++◌}
use lib.Dec.{eqb}
use lib.IntN.{ℤ, pos, negsuc}
use borrow.Author.Tests.{eqb-true}
use Rattle.counts.specs.Lists.{AllBytes}
use Rattle.counts.specs.Outcome.{gives}
use Rattle.counts.proofs.Alike.{or_elim}
use Rattle.number_bytes.specs.Numbers.{least_bytes, least_first, out_order}
use Rattle.type_letters.specs.declared.Endianness.{Endianness}
use Rattle.type_letters.specs.declared.TypeChar.{TypeChar}
use Rattle.type_letters.specs.declared.TypeChar.TheVariants.{Bool as Boolean, Int, Uint, Float as Floating, Complex, TimeDelta, DateTime, ByteStr, UnicodeStr, Object, RawData}
use Rattle.type_units.specs.declared.TimeUnits.{TimeUnits}
use Rattle.type_str.specs.Rules.{allows}
use Rattle.type_str.specs.declared.TypeStr.{TypeStr}
use Rattle.value.specs.declared.Value.{Value}
use Rattle.value.specs.Values.{most_of, read_value}
use Rattle.value.specs.Stored.{complement, value_bytes}
use Rattle.value.specs.Sizes.{IntegerSize}
use Rattle.value.specs.Sorts.{InSize, ValueSort}
use Rattle.value.proofs.Runs.{by_width, eight_whole}
use Rattle.value.proofs.Stored.{stored_back}
use Rattle.value.proofs.Sorts.{sort_of, read_allows}
use Rattle.npy_codes.specs.Values.{value_numbers, said_bytes}

-- what comes above the lower bytes does not change them
more : (n c a : ℕ) → least_bytes n (c * 256 ^ n + a) ≡ least_bytes n a
more zero c a = refl
more (suc n) c a =
    ap (λ (m : ℕ). least_bytes (suc n) (m + a)) (ap (λ (x : ℕ). c * x) (pow-suc 256 n) ∙ sym (mul_assoc c (256 ^ n) 256)) ∙ both (c * 256 ^ n) (more n c (a / 256))
  where
    both : (m : ℕ) → least_bytes n (m + a / 256) ≡ least_bytes n (a / 256) → least_bytes (suc n) (m * 256 + a) ≡ least_bytes (suc n) a
    both m e =
        let first : (m * 256 + a) % 256 ≡ a % 256 = omega arith in
        let rest : (m * 256 + a) / 256 ≡ m + a / 256 = omega arith in
        λ i. first i ∷ (ap (least_bytes n) rest ∙ e) i

-- the lower bytes of a negative number are the same at every width
low : (n : ℕ) → IntegerSize n → (k : ℕ) → 2 * k < 256 ^ n → least_bytes n (most_of 8 - k) ≡ least_bytes n (most_of n - k)
low = by_width (λ n. (k : ℕ) → 2 * k < 256 ^ n → least_bytes n (most_of 8 - k) ≡ least_bytes n (most_of n - k))
    (λ k l. let e : 18446744073709551615 - k ≡ 72057594037927935 * 256 + (255 - k) = omega arith in ap (least_bytes 1) e ∙ more 1 72057594037927935 (255 - k))
    (λ k l. let e : 18446744073709551615 - k ≡ 281474976710655 * 65536 + (65535 - k) = omega arith in ap (least_bytes 2) e ∙ more 2 281474976710655 (65535 - k))
    (λ k l. let e : 18446744073709551615 - k ≡ 4294967295 * 4294967296 + (4294967295 - k) = omega arith in ap (least_bytes 4) e ∙ more 4 4294967295 (4294967295 - k))
    (λ k l. refl)

wide : (o : Endianness) (n : ℕ) (z : ℤ) → IntegerSize n → InSize n z → out_order o n (complement (most_of 8) z) ≡ out_order o n (complement (most_of n) z)
unfolding out_order
wide o n (pos k) w l = refl
wide o n (negsuc k) w l = ap (least_first o) (low n w k l)

said_same : (o : Endianness) (l : TypeChar) (n : ℕ) (u : TimeUnits) (v : Value) → allows l n ≡ true → ValueSort l n u v → said_bytes o n (value_numbers v) ≡ value_bytes o n v
said_same o Boolean n u v a (b, e) = subst (λ (w : Value). said_bytes o n (value_numbers w) ≡ value_bytes o n w) (sym e) refl
said_same o Int n u v a (z, e, l) = subst (λ (w : Value). said_bytes o n (value_numbers w) ≡ value_bytes o n w) (sym e) (wide o n z a l)
said_same o Uint n u v a (k, e, l) = subst (λ (w : Value). said_bytes o n (value_numbers w) ≡ value_bytes o n w) (sym e) refl
said_same o Floating n u v a (s2, s4, s8, s16) =
    or_elim (eqb n 2 || eqb n 4 || eqb n 8) (eqb n 16) a
    (λ x. or_elim (eqb n 2 || eqb n 4) (eqb n 8) x
    (λ y. or_elim (eqb n 2) (eqb n 4) y
    (λ p. let (f, e, _) = s2 (eqb-true n 2 p) in subst (λ (w : Value). said_bytes o n (value_numbers w) ≡ value_bytes o n w) (sym e) refl)
    (λ p. let (f, e, _) = s4 (eqb-true n 4 p) in subst (λ (w : Value). said_bytes o n (value_numbers w) ≡ value_bytes o n w) (sym e) refl))
    (λ p. let (f, e, _) = s8 (eqb-true n 8 p) in subst (λ (w : Value). said_bytes o n (value_numbers w) ≡ value_bytes o n w) (sym e) refl))
    (λ p. absurd (s16 (eqb-true n 16 p)))
said_same o Complex n u v a (s8, s16, s32) =
    or_elim (eqb n 8 || eqb n 16) (eqb n 32) a
    (λ x. or_elim (eqb n 8) (eqb n 16) x
    (λ p. let (f, (g, e, _, _)) = s8 (eqb-true n 8 p) in
    subst (λ (w : Value). said_bytes o n (value_numbers w) ≡ value_bytes o n w) (sym e) (ap (λ (m : ℕ). out_order o (m / 2) f.bits ++ out_order o (m / 2) g.bits) (eqb-true n 8 p)))
    (λ p. let (f, (g, e, _, _)) = s16 (eqb-true n 16 p) in
    subst (λ (w : Value). said_bytes o n (value_numbers w) ≡ value_bytes o n w) (sym e) (ap (λ (m : ℕ). out_order o (m / 2) f.bits ++ out_order o (m / 2) g.bits) (eqb-true n 16 p))))
    (λ p. absurd (s32 (eqb-true n 32 p)))
said_same o TimeDelta n u v a (z, e, l) = subst (λ (w : Value). said_bytes o n (value_numbers w) ≡ value_bytes o n w) (sym e) (wide o n z (eight_whole n (eqb-true n 8 a)) l)
said_same o DateTime n u v a (z, e, l) = subst (λ (w : Value). said_bytes o n (value_numbers w) ≡ value_bytes o n w) (sym e) (wide o n z (eight_whole n (eqb-true n 8 a)) l)
said_same o ByteStr n u v a s = absurd s
said_same o UnicodeStr n u v a s = absurd s
said_same o Object n u v a s = absurd s
said_same o RawData n u v a s = absurd s

pub said_back : (t : TypeStr) (run : List ℕ) (v : Value) → AllBytes run → read_value t run ≡ gives v → said_bytes t.order t.size (value_numbers v) ≡ run
said_back t run v bytes h =
    said_same t.order t.letter t.size t.units v (read_allows t run v h) (sort_of t run v bytes h) ∙ stored_back t run v bytes h
