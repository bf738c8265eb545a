-- `string_value::kept` meets its contract: a byte that is not zero is the last that is left, and a zero before zeros is dropped too.
use Rattle.string_value.proofs.Trims.{trimming_more, trimming_stop}
use Rattle.string_value.proofs.kept.Goals as goal

pub returns-then-run-last-ne0 : goal.returns-then-run-last-ne0
returns-then-run-last-ne0 c = trimming_stop _ _ c.loop-last-test.true c.loop-last.invariant c.if-run-last-ne0.true

pub loop-last-preserved : goal.loop-last-preserved
loop-last-preserved c = trimming_more _ _ c.loop-last-test.true c.loop-last.invariant c.if-run-last-ne0.false
