-- `TimeUnits::put` meets its contract: nothing, or the name in brackets.
use mathlib.Core.Path.{sym, ◌∙◌}
use Rattle.type_units.proofs.Texts.{units_none, units_some}
use Rattle.type_units.proofs.TimeUnits.put.Goals as goal

pub returns-then-is_absent : goal.returns-then-is_absent
returns-then-is_absent c = units_none c.args.self _ _ (sym c.is_absent.ensures ∙ c.if-is_absent.true)

pub returns : goal.returns
returns c = units_some c.args.self _ _ _ _ _ _ _ _ (sym c.is_absent.ensures ∙ c.if-is_absent.false) c.put-inside.ensures c.put_name-after_name.ensures c.put.ensures
