-- `header_feed::start_in` meets its contract, by the version's two bytes.
use mathlib.Core.Path.{ap, sym, ◌∙◌}
use lib.ListN.{get_or}
use mathlib.Core.Bool.{Bool, cond}
use Rattle.header_feed.proofs.Prefixes.{start_by_lem}
use Rattle.header_feed.proofs.start_in.Goals as goal

pub returns-then-head : goal.returns-then-head
returns-then-head c = sym (start_by_lem (get_or c.args.head 6 0) (get_or c.args.head 7 0) ∙ ap (λ (b : Bool). cond b 10 12) c.if-head.true)

pub returns-else-head : goal.returns-else-head
returns-else-head c = sym (start_by_lem (get_or c.args.head 6 0) (get_or c.args.head 7 0) ∙ ap (λ (b : Bool). cond b 10 12) c.if-head.false)
