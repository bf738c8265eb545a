-- The contract, with every reading that keeps the promise.
use Rattle.header.specs.Reads.{lent}
use Rattle.claims.proofs.Readings.{feed_tied}
use Rattle.claims.proofs.header_feed_feed.Goals as goal

pub returns : goal.returns
returns c =
    let a = c.args in
    feed_tied a.f a.part.now a.text.now (lent a.table.now a.names.now a.shape.now) _ _ _ c.feed.ensures
