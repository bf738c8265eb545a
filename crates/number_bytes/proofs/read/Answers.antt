-- `number_bytes::read` meets its contract: n is the number in the bytes from k on, the least significant first.
use Prim.Native.Nat.{ℕ, ◌-◌}
use mathlib.Core.Path.{◌≡◌, sym, ap, ◌∙◌}
use mathlib.Core.Logic.{inl, inr}
use native.Mathlib.Omega.{arith}
use lib.ListN.{length, get_or}
use Rattle.number_bytes.proofs.Runs.{length_least, weight, weight_front, weight_back, in_at, reading_start, reading_more, reading_over, reading_end, judged}
use Rattle.number_bytes.proofs.read.Goals as goal
use Rattle.number_bytes.proofs.read.Goals.{Joined-order, in-Little, in-Big, in-Irrelevant}

pub loop-k-init : goal.loop-k-init
loop-k-init c = reading_start _ _ (sym (length_least c.args.order c.args.run.now))

pub returns-then-n-gt72057594037927935 : goal.returns-then-n-gt72057594037927935
returns-then-n-gt72057594037927935 c = judged _ _ (reading_over _ _ _ c.loop-k-test.true c.loop-k.invariant c.if-n-gt72057594037927935.true)

place : (c : goal.Joined-order) → c.match-order.place ≡ weight c.args.order (length c.args.run.now) (c.loop-k.k - 1)
place c =
    let w = length c.args.run.now in
    let i = c.loop-k.k - 1 in
    elim c.match-order.branch [
      | in-Little b ↦ omega (arith, b.place-is, weight_front c.args.order w i (inl b.in-Little.is))
      | in-Big b ↦ omega (arith, b.place-is, weight_back c.args.order w i b.in-Big.is)
      | in-Irrelevant b ↦ omega (arith, b.place-is, weight_front c.args.order w i (inr b.in-Irrelevant.is))
    ]

pub loop-k-preserved : goal.loop-k-preserved
loop-k-preserved c =
    let run = c.args.run.now in
    let byte = ap (λ (i : ℕ). get_or run i 0) (place (goal.at.loop-k-preserved c).Joined-order) ∙ in_at c.args.order run (c.loop-k.k - 1) (omega arith) in
    reading_more _ _ _ _ c.loop-k-test.true c.loop-k.invariant byte (omega (arith, c.if-n-gt72057594037927935.false, c.type_inv.run c.match-order.place))

pub returns : goal.returns
returns c = judged _ _ (reading_end _ _ _ c.loop-k-test.false c.loop-k.invariant)
