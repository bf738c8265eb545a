-- The version and the order that two of the numbers name, and the other four as they are; 27 where one names none.
use Rattle.refusal.specs.Answers.{answer}
use mathlib.Core.Path.{sym, ap}
use Rattle.counts.proofs.OneOutcome.{matched}
use Rattle.counts.specs.Outcome.{gives, each}
use Rattle.header_feed.specs.Feeds.{outcome}
use Rattle.npy_codes.specs.Given.{version_given}
use Rattle.npy_codes.proofs.FeederNumbers.{header_at_lem, no_order, no_version}
use Rattle.npy_codes.proofs.header_said.Goals as goal

pub returns : goal.returns
returns c = sym (ap (each (λ h. outcome (gives h))) (header_at_lem c.args.numbers _ _ (matched version_given c.version_for.ensures c.in-Ok.is) (matched answer c.order_for.ensures c.in-Ok-order_for.is)))

pub returns-in_default-order_for : goal.returns-in_default-order_for
returns-in_default-order_for c =
    sym (ap (each (λ h. outcome (gives h))) (no_order c.args.numbers _ _ (matched version_given c.version_for.ensures c.in-Ok.is) (matched answer c.order_for.ensures c.in_default-order_for.is)))

pub returns-in_default : goal.returns-in_default
returns-in_default c = sym (ap (each (λ h. outcome (gives h))) (no_version c.args.numbers _ (matched version_given c.version_for.ensures c.in_default.is)))
