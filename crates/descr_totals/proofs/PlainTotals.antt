-- The totals of a plain type, by the bytes that crate type_str counts.
use Rattle.std.specs.Prelude.{Option}
use Prim.Native.Nat.{ℕ, ◌^◌}
use native.Mathlib.Omega.{arith}
use mathlib.Core.Path.{◌≡◌, refl, sym, ap, ◌∙◌}
use mathlib.Core.Bool.{Bool, true, false, cond}
use borrow.Author.Tests.{leb-true}
use Rattle.counts.specs.Number.{number}
use Rattle.counts.proofs.Fits.{number_is, number_over}
use Rattle.counts.proofs.Counted.{bytes_eq}
use Rattle.counts.specs.Counts.{bytes, as_bytes}
use Rattle.type_str.specs.declared.TypeStr.{TypeStr}
use Rattle.type_str.specs.declared.TypeBytes.{TypeBytes}
use Rattle.type_str.specs.declared.TypeBytes.TheVariants.{Sized, Unsized, TooLarge}
use Rattle.type_str.specs.Bytes.{counted_bytes, num_bytes}
use Rattle.dtype.specs.PlainBytes.{plain_bytes}
use Rattle.type_letters.specs.Letters.{is_object}
use Rattle.dtype.specs.Dtype.{plain}
use Rattle.dtype.specs.Limits.{over}
use Rattle.descr_totals.specs.declared.Totals.{Totals}
use Rattle.descr_totals.specs.Totals.{at_most, largest, totals_of}
use Rattle.descr_totals.proofs.Sums.{totals_eq, over_not}

abbrev pub plain_totals : TypeBytes → Totals
plain_totals (Sized n) = record { entries = 1; names = 0; object = false; over_levels = false; over = false; size = n }
plain_totals Unsized = record { entries = 1; names = 0; object = true; over_levels = false; over = false; size = as_bytes 0 }
plain_totals TooLarge = record { entries = 1; names = 0; object = false; over_levels = false; over = true; size = as_bytes largest }

plain_sized : (n : ℕ) → plain_totals (counted_bytes (bytes (number n))) ≡ record { entries = 1; names = 0; object = false; over_levels = false; over = over n; size = as_bytes (at_most largest n) }
plain_sized n = go (over n) refl
  where
    go : (t : Bool) → over n ≡ t → plain_totals (counted_bytes (bytes (number n))) ≡ record { entries = 1; names = 0; object = false; over_levels = false; over = over n; size = as_bytes (at_most largest n) }
    go true h =
        let le = leb-true (2 ^ 64) n h in
        ap (λ (x : Option ℕ). plain_totals (counted_bytes (bytes x))) (number_over n le) ∙ totals_eq refl refl refl refl (sym h) (bytes_eq (omega arith))
    go false h =
        let lt = over_not n h in
        ap (λ (x : Option ℕ). plain_totals (counted_bytes (bytes x))) (number_is n lt) ∙ totals_eq refl refl refl refl (sym h) (bytes_eq (omega arith))

module _ (t : TypeStr) where
  object_bytes : is_object t.letter ≡ true → (num_bytes t ≡ Unsized) × (plain_bytes t ≡ 0)
  unfolding num_bytes
  object_bytes h = (rw (num_bytes, h), rw h)

  counted_bytes_lem : is_object t.letter ≡ false → num_bytes t ≡ counted_bytes (bytes (number (plain_bytes t)))
  unfolding num_bytes
  counted_bytes_lem h = ap (λ (x : Bool). cond x Unsized (counted_bytes (bytes (number (plain_bytes t))))) h

pub plain_totals_lem : (t : TypeStr) → plain_totals (num_bytes t) ≡ totals_of (plain t)
plain_totals_lem t = go (is_object t.letter) refl
  where
    of_bytes : (o : Bool) → is_object t.letter ≡ o → (n : ℕ) → plain_bytes t ≡ n
        → record { entries = 1; names = 0; object = o; over_levels = false; over = over n; size = as_bytes (at_most largest n) } ≡ totals_of (plain t)
    of_bytes o ho n hn = totals_eq refl refl (sym ho) refl (ap over (sym hn)) (bytes_eq (ap (λ (x : ℕ). at_most largest x) (sym hn)))

    go : (o : Bool) → is_object t.letter ≡ o → plain_totals (num_bytes t) ≡ totals_of (plain t)
    go true h = ap plain_totals (object_bytes t h).0 ∙ of_bytes true h 0 (object_bytes t h).1
    go false h = ap plain_totals (counted_bytes_lem t h) ∙ (plain_sized (plain_bytes t) ∙ of_bytes false h (plain_bytes t) refl)
