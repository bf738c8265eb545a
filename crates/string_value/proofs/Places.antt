-- What goes to lent room: all of it or nothing, and a value filled up to its size. Where it was written piece by piece, the pieces are its front.
use Prim.Native.Nat.{ℕ, zero, suc, ◌+◌, ◌*◌, ◌-◌, ◌<◌, ◌≤◌}
use native.Mathlib.Omega.{arith}
use native.Mathlib.Numerals.{add-one}
use mathlib.Core.Path.{◌≡◌, refl, sym, ap, ◌∙◌}
use mathlib.Core.List.{List, [], ◌∷◌, ◌++◌, append_assoc, append-nil}
use lib.ListN.{length, get_or, take, drop, set, replicate, length-append, length-replicate, length-set}
use lib.Seq.{drop-cons, take-suc, length-take-le, set_at}
use Rattle.number_bytes.proofs.Runs.{length_out}
use Rattle.type_letters.specs.declared.Endianness.{Endianness}
use Rattle.string_value.specs.Elements.{trimmed}
use Rattle.string_value.specs.Runs.{zero_filled, point_bytes}
use Rattle.string_value.proofs.Trims.{trim_zeros}

-- ---- filled up
pub length_filled : (size : ℕ) (value : List ℕ) → length value ≤ size → length (zero_filled size value) ≡ size
unfolding zero_filled
length_filled size value h = rw (length-append, length-replicate) (omega arith)

zeros_at : (n i : ℕ) → ◌≡◌ {A = ℕ} (get_or (replicate n 0) i 0) 0
zeros_at zero i = refl
zeros_at (suc n) zero = refl
zeros_at (suc n) (suc i) = zeros_at n i

then_zeros : (value : List ℕ) (n i : ℕ) → get_or (value ++ replicate n 0) i 0 ≡ get_or value i 0
then_zeros [] n i = zeros_at n i
then_zeros (b ∷ value) n zero = refl
then_zeros (b ∷ value) n (suc i) = then_zeros value n i

pub at_filled : (size : ℕ) (value : List ℕ) (i : ℕ) → get_or (zero_filled size value) i 0 ≡ get_or value i 0
unfolding zero_filled
at_filled size value i = then_zeros value (size - length value) i

pub trim_filled : (size : ℕ) (value : List ℕ) → trimmed (zero_filled size value) ≡ trimmed value
unfolding zero_filled
trim_filled size value = trim_zeros value (size - length value)

pub filled_exact : (size : ℕ) (value : List ℕ) → size ≡ length value → zero_filled size value ≡ value
unfolding zero_filled
filled_exact size value e =
    let none : size - length value ≡ 0 = omega arith in
    rw none (append-nil value)

-- ---- four bytes a code point
pub length_points : (order : Endianness) (ps x : List ℕ) → length (point_bytes order ps x) ≡ 4 * length ps + length x
length_points order [] x = omega arith
length_points order (p ∷ ps) x = rw length-append (omega (arith, length_out order 4 p, length_points order ps x))

pub length_filled_points : (order : Endianness) (size : ℕ) (value : List ℕ) → length value ≤ size → length (point_bytes order (zero_filled size value) []) ≡ 4 * size
length_filled_points order size value h = omega (arith, length_points order (zero_filled size value) [], length_filled size value h)

-- ---- one number after another to the front of a room
pub record Copying (ps : List ℕ) (n : ℕ) (old out : List ℕ) (i : ℕ) : Type 0 where
  pub inside : i ≤ n
  pub same : length out ≡ length old
  pub holds : out ≡ take i ps ++ drop i old

pub copying_start : (ps : List ℕ) (n : ℕ) (old : List ℕ) → Copying ps n old old 0
copying_start ps n old = record { inside = omega arith; same = refl; holds = refl }

pub copying_more : (ps : List ℕ) (n : ℕ) (old out : List ℕ) (i p : ℕ) → Copying ps n old out i → i < n → n ≤ length ps → n ≤ length old → p ≡ get_or ps i 0
    → Copying ps n old (set out i p) (i + 1)
copying_more ps n old out i p j lt l m e =
    let lt₁ : i < length ps = omega arith in
    let lt₂ : i < length old = omega arith in
    record {
      inside = omega arith;
      same = rw length-set j.same;
      holds =
          ap (λ (o : List ℕ). set o i p) (j.holds ∙ ap (λ (y : List ℕ). take i ps ++ y) (drop-cons old i 0 lt₂))
          ∙ set_at (take i ps) (get_or old i 0) (drop (suc i) old) p i (length-take-le i ps (omega arith))
          ∙ sym (append_assoc (take i ps) (p ∷ []) (drop (suc i) old))
          ∙ ap (λ (y : List ℕ). y ++ drop (suc i) old) (ap (λ (b : ℕ). take i ps ++ b ∷ []) e ∙ sym (take-suc ps i 0 lt₁))
          ∙ ap (λ (k : ℕ). take k ps ++ drop k old) (sym (add-one i));
    }

pub copying_end : (ps : List ℕ) (n : ℕ) (old out : List ℕ) (i : ℕ) → Copying ps n old out i → n ≤ i → out ≡ take n ps ++ drop n old
copying_end ps n old out i j h =
    let e : i ≡ n = omega (arith, j.inside) in
    j.holds ∙ ap (λ (k : ℕ). take k ps ++ drop k old) e
