-- Each turn is a byte more.
use mathlib.Core.Path.{sym, ◌∙◌}
use borrow.Author.Tests.{not-true, not-false}
use Rattle.get_file.proofs.Lists.{digit_is, checking_wrong, checking_more, checking_end}
use Rattle.get_file.proofs.is_list.Goals as goal

pub returns-then-not-may_follow : goal.returns-then-not-may_follow
returns-then-not-may_follow c = checking_wrong _ _ _ c.loop-b.invariant c.loop-b-test.true (sym c.may_follow.ensures ∙ not-true _ c.if-not-may_follow.true-raw)

pub loop-b-preserved : goal.loop-b-preserved
loop-b-preserved c = checking_more _ _ _ c.loop-b.invariant c.loop-b-test.true _ (sym c.may_follow.ensures ∙ not-false _ c.if-not-may_follow.false-raw) (digit_is _ _ c.is_ascii_digit-digit.ensures.value)

pub returns : goal.returns
returns c = checking_end _ _ _ c.loop-b.invariant c.loop-b-test.false
