-- `write::write_header` meets its contract: what is not printed is not written, and then the header.
use Rattle.counts.proofs.HandedOn.{handed_on}
use Rattle.refusal.specs.Answers.{answer}
use native.Mathlib.Omega.{arith}
use mathlib.Core.Path.{ap}
use Rattle.write_text.proofs.Prints.{unprinted_refused}
use Rattle.write.proofs.Answers.{header_refused, header_measured}
use Rattle.write.proofs.write_header.Goals as goal

pub returns : goal.returns
returns c = header_measured _ _ _ _ _ _ (omega arith) _ _ _ c.in_ok-bare.was c.put_text.ensures c.write_record.result _ c.write_record.ensures

pub returns-in_err-bare : goal.returns-in_err-bare
returns-in_err-bare c = rw (handed_on _ c.in_err-bare.field-0.0 c.from_residual.ensures)
    (header_refused _ _ _ _ _ c.in_err-bare.field-0.0 (unprinted_refused _ _ _ _ _ _ (ap answer c.in_err-bare.was) c.put_text.ensures))
