-- `decimal::read` meets its contract: each turn takes one digit (`read_on_digit`), and it ends at the first byte that is not a digit, at the end of the text, or after eight digits. The
-- number of so many digits is below 10 to that power, so that it fits with one more.
use Prim.Native.Nat.{◌-◌, ◌<◌, ◌≤◌}
use native.Mathlib.Omega.{arith}
use mathlib.Core.Path.{◌≡◌, sym, ◌∙◌}
use mathlib.Core.Bool.{true}
use lib.ListN.{get_or}
use Rattle.decimal.specs.Decimal.{is_digit}
use Rattle.decimal.proofs.Runs.{ascii_digit, digits_stop, digits_end, digit_high, few_more, few_fit, few_digit}
use Rattle.decimal.proofs.Blocks.{read_on_start, read_on_digit, read_on_end}
use Rattle.decimal.proofs.read.Goals as goal
use Rattle.decimal.proofs.read.Goals.{Else-not-is_ascii_digit, then-text-count-via-then-text-count, then-text-count-via-else-text-count+then-not-is_ascii_digit}

pub loop-count-init : goal.loop-count-init
loop-count-init c = (read_on_start _, omega arith)

pub returns-then-text-count : goal.returns-then-text-count
returns-then-text-count c = elim c.then-text-count.branch [
  | then-text-count-via-then-text-count w ↦ read_on_end _ _ _ (digits_end _ _ w.if-text-count.true) ∙ sym c.loop-count.invariant.0
  | then-text-count-via-else-text-count+then-not-is_ascii_digit w ↦
      read_on_end _ _ _ (digits_stop _ _ w.if-text-count.false (sym (ascii_digit _) ∙ sym w.is_ascii_digit.ensures.value ∙ w.if-not-is_ascii_digit.true))
      ∙ sym c.loop-count.invariant.0
]

-- what the tests that were passed say: the byte is a digit, and the number is below 10^8
module _ (c : goal.Else-not-is_ascii_digit) where
  digit : is_digit (get_or c.args.text.now c.loop-count.count 0) ≡ true
  digit = sym (ascii_digit _) ∙ sym c.is_ascii_digit.ensures.value ∙ c.if-not-is_ascii_digit.false

  nine : get_or c.args.text.now c.loop-count.count 0 - 48 ≤ 9
  nine = omega (arith, digit_high _ digit)

  small : c.loop-count.n < 100000000
  small = few_fit _ _ c.loop-count-test.true c.loop-count.invariant.1

pub loop-count-preserved : goal.loop-count-preserved
loop-count-preserved c =
    let l = c.loop-count in
    let d = (goal.at.loop-count-preserved c).Else-not-is_ascii_digit in
    (l.invariant.0 ∙ read_on_digit _ _ _ _ c.if-text-count.false (digit d) (few_digit _ _ (small d) (nine d)), few_more _ _ _ l.invariant.1 (nine d))

pub returns : goal.returns
returns c =
    let all : c.loop-count.count ≡ 8 = omega (arith, c.loop-count-test.false, c.loop-count.auto.count-end) in
    c.by_blocks.ensures ∙ sym (rw all at c.loop-count.invariant.0)
