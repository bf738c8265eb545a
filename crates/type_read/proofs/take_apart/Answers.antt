-- `type_read::take_apart` meets its contract: byte order, letter, and the rest.
use mathlib.Core.Path.{ap, ◌∙◌}
use native.Mathlib.Omega.{arith}
use Rattle.counts.proofs.OneOutcome.{matched}
use Rattle.type_letters.specs.Answer.{order_answer, letter_answer}
use Rattle.type_read.specs.Parts.{parts_answer}
use Rattle.type_read.proofs.Splits.{too_short, no_order, no_letter, both_there}
use Rattle.type_read.proofs.take_apart.Goals as goal

pub returns-in_default : goal.returns-in_default
returns-in_default c = too_short _ (omega arith)

pub returns-in_err-from_byte : goal.returns-in_err-from_byte
returns-in_err-from_byte c = ap parts_answer c.from_residual.ensures ∙ no_order _ c.in-len2-up.len_at_least (matched order_answer c.from_byte.ensures c.in_err-from_byte.was)

pub returns-in_err-from_byte-2 : goal.returns-in_err-from_byte-2
returns-in_err-from_byte-2 c =
    ap parts_answer c.from_residual-in_err-from_byte-2.ensures
    ∙ no_letter _ _ c.in-len2-up.len_at_least (matched order_answer c.from_byte.ensures c.in_ok-from_byte.was) (matched letter_answer c.from_byte-2.ensures c.in_err-from_byte-2.was)

pub returns : goal.returns
returns c =
    both_there _ _ _ _ c.in-len2-up.len_at_least (matched order_answer c.from_byte.ensures c.in_ok-from_byte.was) (matched letter_answer c.from_byte-2.ensures c.in_ok-from_byte-2.was)
    c.sized.ensures
