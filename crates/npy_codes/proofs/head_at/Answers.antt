-- The first i bytes are those of the numbers.
use native.Mathlib.Omega.{arith}
use mathlib.Core.Path.{refl}
use Rattle.header_feed.proofs.Copies.{copying_start}
use Rattle.npy_codes.proofs.FeederNumbers.{low_length, low_next, low_end}
use borrow.Author.Rules.{rules}
use Rattle.npy_codes.proofs.head_at.Goals as goal

pub loop-i-init : goal.loop-i-init
loop-i-init c = copying_start _ 0 _ 12 (search rules) (omega (arith, low_length c.args.numbers, c.well_formed.0.1.0.1))

pub loop-i-preserved : goal.loop-i-preserved
loop-i-preserved c = low_next _ c.args.numbers _ _ c.loop-i.invariant (omega arith)

pub returns : goal.returns
returns c = low_end _ c.args.numbers _ _ refl c.loop-i.invariant (omega arith)
