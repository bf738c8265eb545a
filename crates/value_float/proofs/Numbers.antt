-- A half float that is a number, by its digits and a power of two: their product is the nearest single float, and no NaN.
use mathlib.Core.Path.{◌≡◌, sym, ap, ◌∙◌, subst}
use Prim.Native.Nat.{ℕ, ◌*◌, ◌^◌, ◌<◌}
use native.Mathlib.Nat.{zero-lt-suc, le_of_lt, lt_of_lt_of_le}
use mathlib.Core.Bool.{Bool, false, not}
use lib.Dec.{T, lit≤}
use lib.IntN.{pos}
use lib.Pow.{pow_pos}
use lib.Ieee.{Float, binary32, mul, of_int, round, to_bits, is_nan}
use lib.Ieee.Exact.{HasValue}
use lib.Ieee.Back.{round_whole}
use Rattle.value_float.specs.declared.Single.{Single}
use Rattle.value_float.specs.Half.{digits, shift, scaled, nearest_single}
use Rattle.value_float.proofs.Fields.{digits_few}
use Rattle.value_float.proofs.Patterns.{no_nan}
use Rattle.value_float.proofs.Products.{product}
use Rattle.value_float.proofs.Becomes.{same_number}

module _ (s : Bool) (x t d k : ℕ) (u : Float) (hx : x < 31) (ht : t < 1024) (hd : d ≡ digits x t) (hk : k ≡ shift x) (hu : HasValue u s (2 ^ k) (2 ^ 24)) where
  whole : HasValue (of_int binary32 (pos d)) false d 1
  unfolding of_int
  whole = round_whole binary32 false d (le_of_lt (lt_of_lt_of_le (subst (λ (n : ℕ). n < 2 ^ 11) (sym hd) (digits_few x t ht)) (lit≤ tt)))

  pub is_round : mul binary32 (of_int binary32 (pos d)) u ≡ round binary32 s (scaled x t) (2 ^ 24)
  unfolding scaled
  is_round =
      product binary32 (of_int binary32 (pos d)) u s d 1 (2 ^ k) (2 ^ 24) (zero-lt-suc 0) (pow_pos 24) whole hu
      ∙ ap (λ (n : ℕ). round binary32 s (n * 2 ^ k) (2 ^ 24)) hd
      ∙ ap (λ (n : ℕ). round binary32 s (digits x t * 2 ^ n) (2 ^ 24)) hk

  pub is_number : T (not (is_nan (mul binary32 (of_int binary32 (pos d)) u)))
  is_number = subst (λ (z : Float). T (not (is_nan z))) (sym is_round) (no_nan _ s (scaled x t) (2 ^ 24) (same_number s x t hx ht))

  pub is_exactly : ◌≡◌ {A = Single} (record { number = mul binary32 (of_int binary32 (pos d)) u; bits = to_bits binary32 (mul binary32 (of_int binary32 (pos d)) u) }) (nearest_single s (scaled x t))
  unfolding nearest_single
  is_exactly = ap (λ (z : Float). record { number = z; bits = to_bits binary32 z }) is_round
