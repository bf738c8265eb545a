-- The prefix, and then the header after it.
use Rattle.counts.proofs.HandedOn.{handed_on}
use mathlib.Core.Path.{sym}
use Rattle.counts.proofs.OneOutcome.{matched}
use Rattle.header_prefix.specs.Answer.{prefix_answer}
use Rattle.header_prefix.proofs.Outcomes.{prefix_short}
use Rattle.header.specs.Reads.{lent}
use Rattle.header.proofs.File.{held_read, held_refused}
use Rattle.header.proofs.read_held.Goals as goal

pub read_after_prefix-requires : goal.read_after_prefix-requires
read_after_prefix-requires c = prefix_short c.args.file.now _ (sym (matched prefix_answer c.read.ensures c.in_ok-p.was))

pub returns : goal.returns
returns c =
    let a = c.args in
    held_read a.longer a.file.now (lent a.table.now a.names.now a.shape.now) _ c.read_after_prefix.result _ (matched prefix_answer c.read.ensures c.in_ok-p.was) c.read_after_prefix.ensures

pub returns-in_err-p : goal.returns-in_err-p
returns-in_err-p c = let a = c.args in rw (handed_on _ c.in_err-p.field-0.0 c.from_residual.ensures)
    (held_refused a.longer a.file.now (lent a.table.now a.names.now a.shape.now) _ (matched prefix_answer c.read.ensures c.in_err-p.was))
