-- `header_feed::feed` meets its contract, by what the feeder has said.
use Prim.Native.Nat.{ℕ}
use native.Mathlib.Omega.{arith}
use mathlib.Core.Path.{◌≡◌}
use Rattle.header.specs.Reads.{lent as rooms}
use Rattle.header_feed.proofs.Calls.{feeds_more, feeds_stay}
use Rattle.header_feed.proofs.feed.Goals as goal
use Rattle.header_feed.proofs.feed.Goals.{Start}

pub returns-in-More : goal.returns-in-More
returns-in-More c =
    let o = (goal.at.returns-in-More c).Start in
    feeds_more o.args.f o.args.part.now o.args.text.now (rooms o.args.table.now o.args.names.now o.args.shape.now) _ _ _ c.in-More.is c.take_part.ensures

pub returns-in-Read : goal.returns-in-Read
returns-in-Read c =
    let o = (goal.at.returns-in-Read c).Start in
    feeds_stay o.args.f o.args.part.now o.args.text.now (rooms o.args.table.now o.args.names.now o.args.shape.now) (λ q. let z : ◌≡◌ {A = ℕ} 0 1 = cc c.in-Read.is in omega arith)

pub returns-in-Refused : goal.returns-in-Refused
returns-in-Refused c =
    let o = (goal.at.returns-in-Refused c).Start in
    feeds_stay o.args.f o.args.part.now o.args.text.now (rooms o.args.table.now o.args.names.now o.args.shape.now) (λ q. let z : ◌≡◌ {A = ℕ} 0 1 = cc c.in-Refused.is in omega arith)
