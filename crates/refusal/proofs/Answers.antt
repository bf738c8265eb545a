-- No second outcome of an answer that is a value or a refusal: the answer can be recovered from its outcome, by its two cases. Each crate whose answers have this form
-- cites `answer_one`.
use Rattle.counts.specs.declared.Points.{Points}
use Rattle.counts.specs.declared.Items.{Items}
use Rattle.counts.specs.declared.Bytes.{Bytes}
use Rattle.std.specs.Prelude.{Err, Ok, Result}
use Prim.Native.Nat.{ℕ}
use mathlib.Core.Path.{◌≡◌, refl, ap}
use Rattle.counts.specs.Outcome.{Outcome, gives, refused}
use Rattle.counts.specs.OneOutcome.{OneOutcome}
use Rattle.counts.proofs.OneOutcome.{by_inverse}
use Rattle.refusal.specs.declared.Refusal.{Refusal}
use Rattle.refusal.specs.Answers.{answer, items_answer, bytes_answer, points_answer}
use Rattle.refusal.proofs.Names.{refusal_of, refusal_back}

-- the answer with a given outcome
abbrev pub answer_for : {A B : Type 0} → (value : B → A) (why : Refusal → A) → Outcome B → A
answer_for value why (gives b) = value b
answer_for value why (refused n) = why (refusal_of n)

-- no second outcome of such an answer
pub answer_one : {A B : Type 0} (answer : A → Outcome B) (value : B → A) (why : Refusal → A) → ((a : A) → answer_for value why (answer a) ≡ a) → (o : Outcome B)
    → OneOutcome (λ r. answer r ≡ o)
answer_one answer value why same o = by_inverse answer (answer_for value why) same o

-- ---- an answer whose value stands for itself
whole_same : {A : Type 0} (r : Result A Refusal) → answer_for Ok Err (answer r) ≡ r
whole_same (Ok a) = refl
whole_same (Err why) = ap Err (refusal_back why)

pub whole_one : {A : Type 0} (o : Outcome A) → OneOutcome (λ (r : Result A Refusal). answer r ≡ o)
whole_one o = answer_one answer Ok Err whole_same o

-- ---- the counts
items_same : (a : Result Items Refusal) → answer_for (λ (n : ℕ). Ok (record { 0 = n })) Err (items_answer a) ≡ a
items_same (Ok n) = refl
items_same (Err why) = ap Err (refusal_back why)

pub items_one : (o : Outcome ℕ) → OneOutcome (λ r. items_answer r ≡ o)
items_one o = answer_one items_answer (λ (n : ℕ). Ok (record { 0 = n })) Err items_same o

bytes_same : (a : Result Bytes Refusal) → answer_for (λ (n : ℕ). Ok (record { 0 = n })) Err (bytes_answer a) ≡ a
bytes_same (Ok n) = refl
bytes_same (Err why) = ap Err (refusal_back why)

pub bytes_one : (o : Outcome ℕ) → OneOutcome (λ r. bytes_answer r ≡ o)
bytes_one o = answer_one bytes_answer (λ (n : ℕ). Ok (record { 0 = n })) Err bytes_same o

points_same : (a : Result Points Refusal) → answer_for (λ (n : ℕ). Ok (record { 0 = n })) Err (points_answer a) ≡ a
points_same (Ok n) = refl
points_same (Err why) = ap Err (refusal_back why)

pub points_one : (o : Outcome ℕ) → OneOutcome (λ r. points_answer r ≡ o)
points_one o = answer_one points_answer (λ (n : ℕ). Ok (record { 0 = n })) Err points_same o
