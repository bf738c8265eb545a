-- `Parts::checked` meets its contract: a size that is over is refused before anything else is looked at.
use Rattle.std.specs.Prelude.{Option, ℕ}
use mathlib.Core.Path.{sym, ap, ◌∙◌}
use Rattle.type_read.specs.Parts.{checked_by}
use Rattle.type_read.proofs.Parts.checked.Goals as goal

pub returns-in_default : goal.returns-in_default
returns-in_default c = ap (λ (x : Option ℕ). checked_by x c.args.self) (sym c.in_default.is)

pub returns : goal.returns
returns c = c.validate.ensures ∙ ap (λ (x : Option ℕ). checked_by x c.args.self) (sym c.in-Some.is)
