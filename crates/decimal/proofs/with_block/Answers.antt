-- `decimal::with_block` meets its contract: a number far enough below the largest has room for any block; else a product that does not fit is over with any block, and else the sum decides.
use native.Mathlib.Omega.{arith}
use Prim.Native.Nat.{ℕ, ◌+◌, ◌*◌, ◌^◌, ◌≤◌}
use mathlib.Core.Path.{sym, ap, ◌∙◌}
use mathlib.Core.Logic.{⊎_elim}
use Rattle.std.specs.Prelude.{Option}
use Rattle.counts.specs.Number.{number}
use Rattle.counts.proofs.Fits.{number_is, number_over, number_checked}
use Rattle.counts.proofs.Sides.{lt_or_ge}
use Rattle.decimal.specs.Blocks.{with_block}
use Rattle.decimal.proofs.Blocks.{block_fits, block_number}
use Rattle.decimal.proofs.with_block.Goals as goal

pub returns-in_err-n : goal.returns-in_err-n
unfolding with_block
returns-in_err-n c = c.from_residual.ensures ∙ ap (λ (x : Option ℕ). with_block x c.args.numbers c.args.block) (sym c.in_err-n.was)

pub returns-in_err-checked_mul : goal.returns-in_err-checked_mul
returns-in_err-checked_mul c =
    let n = c.in_ok-n.n in
    let a = c.args in
    let over : 2 ^ 64 ≤ n * a.numbers + a.block =
    ⊎_elim (λ h. absurd (c.in_err-checked_mul.ensures h)) (λ h. omega (arith, h)) (lt_or_ge (n * a.numbers) (2 ^ 64)) in
    block_number _ _ _ _ _ c.in_ok-n.was (c.from_residual-in_err-checked_mul.ensures ∙ sym (number_over _ over))

pub returns-then-n-numbers : goal.returns-then-n-numbers
returns-then-n-numbers c = let a = c.args in block_number _ _ _ _ _ c.in_ok-n.was (sym (number_is _ (block_fits c.in_ok-n.n a.numbers a.block (omega (arith, c.if-n-numbers.true)) (omega (arith, c.if-block-numbers.true)))))

pub returns : goal.returns
returns c =
    block_number _ _ _ _ _ c.in_ok-n.was
    (number_checked _ _ c.checked_add.ensures ∙ ap (λ (k : ℕ). number (k + c.args.block)) c.in_ok-checked_mul.ensures.1)
