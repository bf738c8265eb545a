-- `place_area::is_short` meets its contract: what is over 2^64-1 is longer than any file.
use Rattle.place_area.proofs.Area.{area_over, end_over, end_is}
use native.Mathlib.Omega.{arith}
use mathlib.Core.Path.{sym, ◌∙◌}
use Rattle.place_area.proofs.is_short.Goals as goal

pub returns-in_default : goal.returns-in_default
returns-in_default c = area_over c.args.file.0 c.args.start.0 c.args.count.0 c.args.size.0 (omega arith) (sym c.in_default.is ∙ c.of_size.ensures)

pub returns-in_default-plus : goal.returns-in_default-plus
returns-in_default-plus c = end_over c.args.file.0 c.args.start.0 c.args.count.0 c.args.size.0 _ (sym c.in-Some.is ∙ c.of_size.ensures) (omega arith) (sym c.in_default-plus.is ∙ c.plus.ensures)

pub returns : goal.returns
returns c = end_is c.args.file.0 c.args.start.0 c.args.count.0 c.args.size.0 _ (sym c.in-Some.is ∙ c.of_size.ensures) _ (sym c.in-Some-plus.is ∙ c.plus.ensures)
