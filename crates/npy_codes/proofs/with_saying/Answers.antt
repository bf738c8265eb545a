-- The first i numbers of what is said are copied.
use native.Mathlib.Omega.{arith}
use mathlib.Core.List.{◌++◌}
use mathlib.Core.Path.{ap, ◌∙◌}
use lib.ListN.{length, take}
use Rattle.header_feed.proofs.Copies.{copying_start, copying_next}
use Rattle.header_feed.specs.Feeds.{progress}
use Rattle.npy_codes.proofs.FeederNumbers.{saying_end, saying_length}
use Rattle.npy_codes.proofs.with_saying.Goals as goal

pub loop-i-init : goal.loop-i-init
loop-i-init c = copying_start _ 13 _ 7 (omega (arith, c.well_formed.0.1.0.1)) (omega (arith, ap length c.saying_numbers-says.ensures ∙ saying_length (progress c.args.said)))

pub loop-i-preserved : goal.loop-i-preserved
loop-i-preserved c = copying_next _ _ _ _ _ _ c.loop-i.invariant (omega arith)

pub returns : goal.returns
returns c = saying_end _ _ _ _ c.well_formed.0.1.0.1 (ap length c.saying_numbers-says.ensures ∙ saying_length (progress c.args.said)) c.loop-i.invariant (omega arith) ∙ ap (λ x. take 13 c.args.numbers ++ x) c.saying_numbers-says.ensures
