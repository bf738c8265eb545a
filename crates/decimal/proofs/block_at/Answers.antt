-- `decimal::block_at` meets its contract: a text that is too short has no eight digits there, and eight bytes are digits where the text has eight digits (`front_digits`).
use Prim.Native.Nat.{ℕ, ◌+◌, ◌-◌, ◌<◌}
use native.Mathlib.Omega.{arith}
use borrow.Author.Tests.{leb-true, leb-false}
use mathlib.Core.Path.{◌≡◌, sym, ap, ◌∙◌}
use mathlib.Core.List.{List}
use lib.Dec.{leb}
use lib.ListN.{length, take, drop, length-drop}
use lib.Seq.{take_all}
use Rattle.decimal.specs.Decimal.{digits_of}
use Rattle.decimal.specs.Blocks.{all_digits}
use Rattle.decimal.proofs.Runs.{digits_inside}
use Rattle.decimal.proofs.Blocks.{front_digits}
use Rattle.decimal.proofs.block_at.Goals as goal
use Rattle.decimal.proofs.block_at.Goals.{After-all_digits}

short : (text : List ℕ) (at : ℕ) → length text < at + 8 → length (digits_of (drop at text)) < 8
short text at h = omega (arith, h, digits_inside (drop at text), length-drop at text)

pub returns-in_err-get : goal.returns-in_err-get
returns-in_err-get c = let a = c.args in rw c.from_residual.ensures (short a.text.now a.at (omega (arith, c.in_err-get.ensures.lookup.0)))

pub returns-in_err-block : goal.returns-in_err-block
returns-in_err-block c =
    let a = c.args in
    rw c.from_residual-in_err-block.ensures (short a.text.now a.at (omega (arith, c.in_err-block.ensures.cases, c.in_ok-get.ensures.lookup)))

-- the block is the text's, and its bytes decide
module _ (c : goal.After-all_digits) where
  rest : c.in_ok-get.field-0.now ≡ drop c.args.at c.args.text.now
  rest =
      let text = c.args.text.now in
      c.in_ok-get.ensures.lookup.0.2 ∙ take_all (length text - c.args.at) (drop c.args.at text) (rw length-drop (omega arith))

  block : c.in_ok-block.block.now ≡ take 8 (drop c.args.at c.args.text.now)
  block = c.in_ok-block.ensures.cases.same ∙ ap (λ (l : List ℕ). take 8 l) rest

  digits : c.all_digits.result ≡ leb 8 (length (digits_of (drop c.args.at c.args.text.now)))
  digits =
      c.all_digits.ensures ∙ ap all_digits block
      ∙ front_digits 8 (drop c.args.at c.args.text.now) (omega (arith, c.in_ok-block.ensures.cases.enough, ap (λ (l : List ℕ). length l) rest))

pub returns-then-all_digits : goal.returns-then-all_digits
returns-then-all_digits c =
    let d = (goal.at.returns-then-all_digits c).After-all_digits in
    (leb-true 8 _ (sym (digits d) ∙ c.if-all_digits.true), block d)

pub returns-else-all_digits : goal.returns-else-all_digits
returns-else-all_digits c = leb-false 8 _ (sym (digits (goal.at.returns-else-all_digits c).After-all_digits) ∙ c.if-all_digits.false)
