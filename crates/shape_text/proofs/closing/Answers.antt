-- By the kind.
use borrow.Enum.Refused.{opened}
use mathlib.Core.Path.{sym, ap}
use Rattle.shape_text.specs.Members.{closing_of}
use Rattle.shape_text.proofs.Numbers.{other_kind}
use Rattle.shape_text.proofs.closing.Goals as goal

pub returns-in-Square : goal.returns-in-Square
returns-in-Square c = ap closing_of (sym c.in-Square.is)

pub returns-in-Round : goal.returns-in-Round
returns-in-Round c = ap closing_of (sym c.in-Round.is)

pub returns-in-Curly : goal.returns-in-Curly
returns-in-Curly c = sym (other_kind c.args.k (opened c.in-Curly.in-Curly-own.keys3))
