-- The first i numbers are the head's bytes.
use native.Mathlib.Omega.{arith}
use mathlib.Core.Path.{refl}
use Rattle.header_feed.proofs.Copies.{copying_start}
use Rattle.npy_codes.proofs.FeederNumbers.{head_next, head_end}
use borrow.Author.Rules.{rules}
use Rattle.npy_codes.proofs.with_head.Goals as goal

pub loop-i-init : goal.loop-i-init
loop-i-init c = copying_start _ 0 _ 12 (search rules) (omega (arith, c.well_formed.0.1.0.1))

pub loop-i-preserved : goal.loop-i-preserved
loop-i-preserved c = head_next _ _ _ _ c.loop-i.invariant (omega arith)

pub returns : goal.returns
returns c = head_end _ c.args.head _ _ _ refl c.well_formed.0.1.0.1 c.loop-i.invariant (omega arith)
