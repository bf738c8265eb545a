-- `header_feed::prefix_in` meets its contract: the part of the head that it reads is as long as both reach.
use Prim.Native.Nat.{ℕ, min}
use mathlib.Core.Path.{sym, ap, ◌∙◌}
use lib.ListN.{take}
use Rattle.record.specs.Prefix.{prefix}
use lib.Seq.{length-take-le}
use Rattle.header_feed.proofs.Holds.{within}
use Rattle.header_feed.proofs.prefix_in.Goals as goal
use Rattle.header_feed.proofs.prefix_in.Goals.{Start}

pub slice_bounds-head-end : goal.slice_bounds-head-end
slice_bounds-head-end c = within c.args.head c.args.got _ _ c.min-n.ensures c.start_in.ensures c.well_formed.0.1.0.1

pub slice_bounds-read-end : goal.slice_bounds-read-end
slice_bounds-read-end c = let p = (goal.at.slice_bounds-read-end c).Start in sym (length-take-le _ p.args.head (within p.args.head p.args.got _ _ c.min-n.ensures c.start_in.ensures p.well_formed.0.1.0.1))

pub returns : goal.returns
returns c =
    let p = (goal.at.returns c).Start in
    c.read.ensures ∙ ap (λ (n : ℕ). prefix (take n p.args.head)) (c.min-n.ensures ∙ ap (min p.args.got) c.start_in.ensures)
