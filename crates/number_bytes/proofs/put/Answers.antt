-- `number_bytes::put` meets its contract: each turn writes one byte more.
use Prim.Native.Nat.{ℕ}
use native.Mathlib.Omega.{arith}
use mathlib.Core.Path.{◌≡◌, refl, ap, ◌∙◌}
use mathlib.Core.Logic.{inl, inr}
use mathlib.Core.List.{◌∷◌, ◌++◌}
use Rattle.emit.proofs.Pieces.{left_start, left_more, left_end, emits_byte}
use Rattle.number_bytes.specs.Numbers.{byte_of, out_order}
use Rattle.number_bytes.proofs.Runs.{length_out, weight, weight_front, weight_back, out_at}
use Rattle.number_bytes.proofs.put.Goals as goal
use Rattle.number_bytes.proofs.put.Goals.{Joined-order, in-Little, in-Big, in-Irrelevant}

pub loop-i-init : goal.loop-i-init
loop-i-init c = left_start ◌∷◌ ◌++◌ (λ x. refl) (λ b s x. refl) (out_order _ _ _) _ _

which : (c : goal.Joined-order) → c.match-order.k ≡ weight c.args.order c.args.width c.loop-i.i
which c =
    let w = c.args.width in
    let i = c.loop-i.i in
    elim c.match-order.branch [
      | in-Little b ↦ omega (arith, b.k-is, weight_front c.args.order w i (inl b.in-Little.is))
      | in-Big b ↦ omega (arith, b.k-is, weight_back c.args.order w i b.in-Big.is)
      | in-Irrelevant b ↦ omega (arith, b.k-is, weight_front c.args.order w i (inr b.in-Irrelevant.is))
    ]

pub loop-i-preserved : goal.loop-i-preserved
loop-i-preserved c =
    let byte = c.byte_of.ensures ∙ ap (λ (k : ℕ). byte_of k c.args.n) (which (goal.at.loop-i-preserved c).Joined-order) ∙ out_at _ _ _ _ c.loop-i-test.true in
    left_more ◌∷◌ ◌++◌ (λ x. refl) (λ b s x. refl) (out_order _ _ _) _ _ _ _ _ _ _ c.loop-i.invariant (rw length_out c.loop-i-test.true) (emits_byte _ _ _ _ _ _ byte c.put-p.ensures)

pub shape_of-out : goal.shape_of-out
shape_of-out c = c.loop-i.invariant.same

pub returns : goal.returns
returns c = left_end ◌∷◌ ◌++◌ (λ x. refl) (λ b s x. refl) (out_order _ _ _) _ _ _ _ _ c.loop-i.invariant (rw length_out c.loop-i-test.false)
