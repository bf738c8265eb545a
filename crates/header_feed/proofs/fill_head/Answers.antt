-- `header_feed::fill_head` meets its contract: the two stretches of Heads.antt.
use Prim.Native.Nat.{ℕ, ◌≤◌}
use native.Mathlib.Omega.{arith}
use mathlib.Core.Path.{◌≡◌, subst}
use mathlib.Core.List.{List}
use Rattle.header_feed.specs.Steps.{Grown}
use Rattle.header_feed.specs.declared.Grows.{Grows}
use Rattle.header_feed.proofs.Prefixes.{start_bounds}
use Rattle.header_feed.proofs.Heads.{first_short, first_done, second_done}
use Rattle.header_feed.proofs.Texts.{read_no_three, other_no_three, is_three}
use Rattle.header_feed.proofs.fill_head.Goals as goal

-- the first stretch goes up to byte 8, no further and no less
up_to_eight : {head rest : List ℕ} {had upto from : ℕ} {a : Grows} → Grown head had upto rest from a → upto ≤ 8 → 8 ≤ upto → Grown head had 8 rest from a
up_to_eight {head} {rest} {had} {upto} {from} {a} g most least =
    let e : upto ≡ 8 = omega (arith, most, least) in
    subst (λ (k : ℕ). Grown head had k rest from a) e g

pub returns-then-first-lt-FIRST : goal.returns-then-first-lt-FIRST
returns-then-first-lt-FIRST c = λ was text taken h. first_short was text taken _ _ h _ _ (up_to_eight c.grow-a.ensures (omega arith) (omega arith)) c.if-first-lt-FIRST.true

pub grow-requires : goal.grow-requires
grow-requires c = (omega (arith, c.start_in.ensures, start_bounds c.grow-a.result.head), omega (arith, c.grow-a.ensures.used_is))

pub returns-in-Ok : goal.returns-in-Ok
returns-in-Ok c = λ was text taken h.
    first_done was text taken _ _ h _ _ (up_to_eight c.grow-a.ensures (omega arith) (omega arith)) c.if-first-lt-FIRST.false _ c.prefix_in.ensures (read_no_three _ _ c.in-Ok.is)

pub returns-then-is_incomplete : goal.returns-then-is_incomplete
returns-then-is_incomplete c = λ was text taken h.
    second_done was text taken _ _ h _ _ (up_to_eight c.grow-a.ensures (omega arith) (omega arith)) c.if-first-lt-FIRST.false (is_three _ _ _ _ c.prefix_in.ensures c.in-Err.is c.is_incomplete.ensures c.if-is_incomplete.true) _ c.start_in.ensures _ c.grow.ensures

pub returns-else-is_incomplete : goal.returns-else-is_incomplete
returns-else-is_incomplete c = λ was text taken h.
    first_done was text taken _ _ h _ _ (up_to_eight c.grow-a.ensures (omega arith) (omega arith)) c.if-first-lt-FIRST.false _ c.prefix_in.ensures (other_no_three _ _ _ c.in-Err.is c.is_incomplete.ensures c.if-is_incomplete.false)
