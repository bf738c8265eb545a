-- What is returned of an equal outcome.
use Prim.Native.Nat.{ℕ}
use mathlib.Core.Path.{◌≡◌, ap, ◌∙◌}
use mathlib.Core.List.{List}
use Rattle.counts.specs.Outcome.{Outcome, afterwards}
use Rattle.npy_codes.specs.Codes.{code, Returns}

pub returns_same : {A : Type 0} {values : A → List ℕ} {o p : Outcome A} {room room' : List ℕ} {r : ℕ} → o ≡ p → Returns values o room r room' → Returns values p room r room'
returns_same {values = values} {room = room} is t = record { answered = t.answered ∙ ap code is; after = t.after ∙ ap (λ x. afterwards (λ a old. values a) x room) is }
