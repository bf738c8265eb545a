-- `string_element::copy_points` meets its contract: each turn writes one code point more, and each of them is a scalar value.
use mathlib.Core.Path.{sym, ◌∙◌}
use Rattle.counts.proofs.OneOutcome.{matched}
use Rattle.counts.proofs.Apart.{gives_refused, gives_apart}
use Rattle.string_value.proofs.Places.{copying_more}
use Rattle.string_value.proofs.Scalars.{found_at}
use native.Mathlib.Omega.{arith}
use Rattle.string_element.specs.Answer.{point_answer}
use Rattle.string_element.proofs.copy_points.Goals as goal

pub returns-in_default : goal.returns-in_default
returns-in_default c = gives_refused (sym (found_at c.args.order c.args.run.now _ (omega (arith, c.requires.0))).is ∙ sym (matched point_answer c.point_at.ensures c.in_default.is))

pub loop-i-preserved : goal.loop-i-preserved
loop-i-preserved c =
    copying_more _ _ _ _ _ _ c.loop-i.invariant c.loop-i-test.true c.requires.0 c.requires.1
    (gives_apart ((matched point_answer c.point_at.ensures c.in-Some.is) ∙ (found_at c.args.order c.args.run.now _ (omega (arith, c.requires.0))).is))
