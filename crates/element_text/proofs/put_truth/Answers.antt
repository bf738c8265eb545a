-- The word and the truth, by the truth.
use mathlib.Core.Path.{sym}
use Rattle.element_text.proofs.Values.{truth_is}
use Rattle.element_text.proofs.put_truth.Goals as goal

pub returns-then-b : goal.returns-then-b
returns-then-b c = truth_is _ _ _ _ _ (sym c.if-b.true) c.put_bytes.ensures

pub returns : goal.returns
returns c = truth_is _ _ _ _ _ (sym c.if-b.false) c.put_bytes-2.ensures
