-- A digit, or a comma after a digit.
use mathlib.Core.Path.{sym, ◌∙◌}
use lib.Dec.{eqb}
use Rattle.get_file.proofs.Lists.{follows_digit, follows_other}
use Rattle.get_file.proofs.may_follow.Goals as goal

pub returns-then-is_ascii_digit : goal.returns-then-is_ascii_digit
returns-then-is_ascii_digit c = rw c.if-is_ascii_digit.true (follows_digit c.args.b c.args.digit _ (sym c.if-is_ascii_digit.true ∙ c.is_ascii_digit.ensures.value))

pub returns-then-digit : goal.returns-then-digit
returns-then-digit c = follows_other c.args.b c.args.digit _ _ (sym c.if-is_ascii_digit.false ∙ c.is_ascii_digit.ensures.value) c.if-digit.true

pub returns-else-digit : goal.returns-else-digit
returns-else-digit c = c.if-digit.false ∙ follows_other c.args.b c.args.digit (eqb c.args.b 44) _ (sym c.if-is_ascii_digit.false ∙ c.is_ascii_digit.ensures.value) c.if-digit.false
