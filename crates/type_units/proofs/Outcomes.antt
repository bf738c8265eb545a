-- No second outcome satisfies a statement of this crate's public functions. Each result of `from_text` can be recovered from its outcome.
use Rattle.std.specs.Prelude.{None, Some, Option}
use Prim.Native.Nat.{ℕ, ◌^◌, ◌<◌}
use mathlib.Core.Path.{◌≡◌, refl}
use mathlib.Core.Bool.{Bool}
use mathlib.Core.List.{List, ◌++◌}
use Rattle.counts.specs.OneOutcome.{OneOutcome}
use Rattle.counts.proofs.OneOutcome.{by_equation, by_inverse}
use Rattle.emit.specs.Emits.{Emits}
use Rattle.emit.proofs.Outcomes.{emits_one}
use Rattle.type_units.specs.Units.{unit_name, unit_text, is_absent, units_of}
use Rattle.type_units.specs.declared.TimeUnits.{TimeUnits}
use Rattle.counts.specs.Outcome.{Outcome, gives, refused}
use Rattle.type_units.specs.Answer.{units_answer}

pub is_absent_one : (u : TimeUnits) → OneOutcome {A = Bool} (λ r. r ≡ is_absent u)
is_absent_one u = by_equation (is_absent u)

pub units_put_one : (u : TimeUnits) (old : List ℕ) (at : ℕ) → OneOutcome {A = List ℕ × ℕ} (λ r. Emits (unit_text u) old at r.0 r.1 × (r.1 < 2 ^ 64))
units_put_one u = emits_one (unit_text u)

pub units_put_name_one : (u : TimeUnits) (old : List ℕ) (at : ℕ) → OneOutcome {A = List ℕ × ℕ} (λ r. Emits (λ x. unit_name u ++ x) old at r.0 r.1 × (r.1 < 2 ^ 64))
units_put_name_one u = emits_one (λ x. unit_name u ++ x)

-- the result with a given outcome
units_back : Outcome TimeUnits → Option TimeUnits
units_back (gives u) = Some u
units_back (refused n) = None

units_same : (r : Option TimeUnits) → units_back (units_answer r) ≡ r
unfolding units_back
units_same (Some u) = refl
units_same None = refl

pub units_from_text_one : (text : List ℕ) → OneOutcome (λ r. units_answer r ≡ units_of text)
units_from_text_one text = by_inverse units_answer units_back units_same (units_of text)
