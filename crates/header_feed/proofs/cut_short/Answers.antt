-- `header_feed::cut_short` meets its contract, by the test of byte 8.
use borrow.Author.Tests.{lt-ltb, le-ltb}
use Rattle.header_feed.proofs.cut_short.Goals as goal

pub returns-then-taken-lt-FIRST : goal.returns-then-taken-lt-FIRST
returns-then-taken-lt-FIRST c = rw (lt-ltb c.args.taken 8 c.if-taken-lt-FIRST.true)

pub returns-else-taken-lt-FIRST : goal.returns-else-taken-lt-FIRST
returns-else-taken-lt-FIRST c = rw (le-ltb c.args.taken 8 c.if-taken-lt-FIRST.false)
