-- Each turn puts one code point more, and each of them is a scalar value.
use mathlib.Core.Path.{sym, ◌∙◌}
use native.Mathlib.Omega.{arith}
use Rattle.counts.proofs.OneOutcome.{matched}
use Rattle.counts.proofs.Apart.{refused_gives}
use Rattle.string_element.specs.Answer.{point_answer}
use Rattle.string_value.proofs.Scalars.{found_at}
use Rattle.element_text.proofs.Strings.{turn_more, turn_end, point_scalar}
use Rattle.element_text.proofs.put_each_point.Goals as goal

pub overflow_mul-i : goal.overflow_mul-i
overflow_mul-i c = let there = found_at c.args.order c.args.run.now c.loop-i.i (omega (arith, c.requires)) in omega (arith, there.inside)

pub returns-in_default : goal.returns-in_default
returns-in_default c = refused_gives (matched point_answer c.point_at.ensures c.in_default.is ∙ (found_at c.args.order c.args.run.now c.loop-i.i (omega (arith, c.requires))).is)

pub put_point-p-requires : goal.put_point-p-requires
put_point-p-requires c = point_scalar _ _ _ (sym (matched point_answer c.point_at.ensures c.in-Some.is))

pub loop-i-preserved : goal.loop-i-preserved
loop-i-preserved c = turn_more c.args.order c.args.run.now c.args.n.0 c.requires _ _ _ _ _ c.loop-i.invariant c.loop-i-test.true _ _ _ (sym (matched point_answer c.point_at.ensures c.in-Some.is)) c.put_point-p.ensures

pub returns : goal.returns
returns c = turn_end c.args.order c.args.run.now c.args.n.0 c.requires _ _ _ _ _ c.loop-i.invariant c.loop-i-test.false
