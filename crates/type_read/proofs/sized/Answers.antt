-- `type_read::sized` meets its contract: digits where the letter has a size, and then the units.
use mathlib.Core.Path.{ap, ◌∙◌}
use native.Mathlib.Omega.{arith}
use borrow.Author.Tests.{not-true, not-false}
use Rattle.counts.proofs.OneOutcome.{matched}
use Rattle.decimal.proofs.Runs.{digits_inside}
use Rattle.type_units.specs.Answer.{units_answer}
use Rattle.type_read.specs.Parts.{parts_answer}
use Rattle.type_read.proofs.Splits.{read_count, read_number, allowed_by_count, units_after, no_size, no_units_there, parts_there}
use Rattle.type_read.proofs.sized.Goals as goal

pub returns-then-not-size_allowed : goal.returns-then-not-size_allowed
returns-then-not-size_allowed c = no_size _ _ _ (allowed_by_count c.args.letter _ _ _ (read_count _ _ c.read-digits.ensures) c.size_allowed.ensures ∙ not-true _ c.if-not-size_allowed.true-raw)

pub slice_bounds-from_text-count : goal.slice_bounds-from_text-count
slice_bounds-from_text-count c = omega (arith, read_count _ _ c.read-digits.ensures, digits_inside c.args.text.now)

pub slice_bounds-from_text-start : goal.slice_bounds-from_text-start
slice_bounds-from_text-start c = omega (arith, read_count _ _ c.read-digits.ensures, digits_inside c.args.text.now)

pub returns-in_err-units : goal.returns-in_err-units
returns-in_err-units c =
    ap parts_answer c.from_residual.ensures
    ∙ no_units_there _ _ _ (allowed_by_count c.args.letter _ _ _ (read_count _ _ c.read-digits.ensures) c.size_allowed.ensures ∙ not-false _ c.if-not-size_allowed.false-raw)
    (units_after _ _ _ (read_count _ _ c.read-digits.ensures) (matched units_answer c.from_text.ensures c.in_err-units.was))

pub returns : goal.returns
returns c =
    parts_there _ _ _ _ _ (allowed_by_count c.args.letter _ _ _ (read_count _ _ c.read-digits.ensures) c.size_allowed.ensures ∙ not-false _ c.if-not-size_allowed.false-raw)
    (units_after _ _ _ (read_count _ _ c.read-digits.ensures) (matched units_answer c.from_text.ensures c.in_ok-units.was))
    (read_number _ _ c.read-digits.ensures)
