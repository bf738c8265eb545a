-- Each test in its order.
use mathlib.Core.Path.{sym, ap, ◌∙◌}
use Rattle.counts.specs.Outcome.{then}
use Rattle.counts.proofs.OneOutcome.{matched}
use Rattle.record.specs.Prefix.{length_read}
use Rattle.header_prefix.specs.Answer.{version_answer}
use Rattle.header_prefix.proofs.Bytes.{short_is_1, other_is_1, then_version}
use borrow.Author.Tests.{not-true, not-false}
use Rattle.header_prefix.proofs.read.Goals as goal
use Rattle.header_prefix.proofs.read.Goals.{then-file-lt8-via-then-file-lt8, then-file-lt8-via-else-file-lt8+then-not-is_magic}

pub returns-then-file-lt8 : goal.returns-then-file-lt8
returns-then-file-lt8 c =
    elim c.then-file-lt8.branch [
      | then-file-lt8-via-then-file-lt8 w ↦ sym (short_is_1 _ w.if-file-lt8.true)
      | then-file-lt8-via-else-file-lt8+then-not-is_magic w ↦ sym (other_is_1 _ w.if-file-lt8.false (sym w.is_magic.ensures ∙ not-true _ w.if-not-is_magic.true-raw))
    ]

pub returns-in_default : goal.returns-in_default
returns-in_default c = sym (then_version _ c.if-file-lt8.false (sym c.is_magic.ensures ∙ not-false _ c.if-not-is_magic.false-raw) ∙ ap (λ v. then v (λ v. length_read v c.args.file.now)) (sym (matched version_answer c.version_of.ensures c.in_default.is)))

pub returns : goal.returns
returns c = c.text_length.ensures ∙ sym (then_version _ c.if-file-lt8.false (sym c.is_magic.ensures ∙ not-false _ c.if-not-is_magic.false-raw) ∙ ap (λ v. then v (λ v. length_read v c.args.file.now)) (sym (matched version_answer c.version_of.ensures c.in-Some.is)))
