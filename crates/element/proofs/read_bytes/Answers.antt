-- `element::read_bytes` meets its contract: the place's refusal, or the reading of the part of the file that the place names.
use Rattle.counts.proofs.HandedOn.{handed_on}
use Rattle.refusal.specs.Answers.{answer}
use Rattle.counts.proofs.OneOutcome.{matched}
use Rattle.element.proofs.Placed.{bytes_refused, bytes_placed}
use Rattle.element.proofs.read_bytes.Goals as goal

pub returns : goal.returns
returns c =
    bytes_placed _ _ _ _ _ _ _ _ _ _ (matched answer c.place_in.ensures c.in_ok-run.was)
    c.part.ensures c.read_bytes.ensures

pub returns-in_err-run : goal.returns-in_err-run
returns-in_err-run c = rw (handed_on _ c.in_err-run.field-0.0 c.from_residual.ensures)
    (bytes_refused _ _ _ _ _ _ _ _ _ _ (matched answer c.place_in.ensures c.in_err-run.was))
