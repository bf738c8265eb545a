-- Document 01, "What counts as an answer": no second outcome meets the statement of any public function of crate utf8_scalar, since each is an equation on the outcome of
-- the result, and no two results have the same outcome. And the numbers: 29 is given exactly if the number is no scalar value, 28 exactly if it is one and the room is too
-- small for it.
use Rattle.refusal.specs.declared.Refusal.{Refusal}
use Rattle.counts.specs.declared.Bytes.{Bytes}
use Rattle.std.specs.Prelude.{Result}
use Prim.Native.Nat.{ℕ, ◌≤◌, ◌<◌}
use mathlib.Core.Path.{◌≡◌, refl}
use mathlib.Core.Bool.{Bool, true, false}
use mathlib.Core.Logic.{◌↔◌, ⊎_elim}
use mathlib.Core.List.{List}
use native.Mathlib.Omega.{arith}
use lib.ListN.{length}
use Rattle.counts.specs.Outcome.{Outcome, gives, refused}
use Rattle.counts.specs.OneOutcome.{OneOutcome}
use Rattle.counts.proofs.OneOutcome.{by_equation}
use Rattle.counts.proofs.Owes.{owes_one}
use Rattle.counts.proofs.Sides.{lt_or_ge}
use Rattle.utf8_scalar.specs.Scalar.{is_scalar}
use Rattle.utf8_scalar.specs.Encode.{encode}
use Rattle.utf8_scalar.specs.Answer.{Encodes, encoding}
use Rattle.refusal.specs.Answers.{bytes_answer}
use Rattle.refusal.proofs.Answers.{bytes_one}
use Rattle.utf8_scalar.proofs.Writing.{encoding_not, encoding_short, encoding_fits}

-- ---- one outcome

pub is_scalar_one : (value : ℕ) → OneOutcome (λ r. r ≡ is_scalar value)
is_scalar_one value = by_equation (is_scalar value)

-- an outcome of writing is the answer and the room's final content
pub encode_one : (value : ℕ) (room : List ℕ) → OneOutcome {A = Result Bytes Refusal × List ℕ} (λ r. Encodes value room r.0 r.1)
encode_one value room = owes_one bytes_answer bytes_one (encoding value room) room

-- ---- given exactly when

-- two refusals with other numbers, or a refusal and a value, are not the same
differ : {A : Type 0} {r : Outcome A} {m n : ℕ} → r ≡ refused m → r ≡ refused n → (m ≡ n → ⊥) → ⊥
differ p q h = h cc

pub given : {A : Type 0} {r : Outcome A} {a : A} {n : ℕ} → r ≡ gives a → r ≡ refused n → ⊥
given p q = let z : ◌≡◌ {A = ℕ} 0 1 = cc in omega arith

module _ (c : ℕ) (room : List ℕ) where
  -- writing by its three cases
  by_case : {P : Type 0}
      → (is_scalar c ≡ false → P)
      → (is_scalar c ≡ true → length room < length (encode c) → P)
      → (is_scalar c ≡ true → length (encode c) ≤ length room → P)
      → P
  by_case {P} not short fits = go (is_scalar c) refl
    where
      go : (t : Bool) → is_scalar c ≡ t → P
      go true s = ⊎_elim (short s) (fits s) (lt_or_ge (length room) (length (encode c)))
      go false s = not s

  pub not_scalar_exactly : (encoding c room ≡ refused 29) ↔ (is_scalar c ≡ false)
  not_scalar_exactly = (
    λ e. by_case
        (λ s. s)
        (λ s h. absurd (differ (encoding_short c room s h) e (omega arith)))
        (λ s h. absurd (given (encoding_fits c room s h) e)),
    encoding_not c room,
  )

  pub no_room_exactly : (encoding c room ≡ refused 28) ↔ ((is_scalar c ≡ true) × (length room < length (encode c)))
  no_room_exactly = (
    λ e. by_case
        (λ s. absurd (differ (encoding_not c room s) e (omega arith)))
        (λ s h. (s, h))
        (λ s h. absurd (given (encoding_fits c room s h) e)),
    λ p. encoding_short c room p.0 p.1,
  )
