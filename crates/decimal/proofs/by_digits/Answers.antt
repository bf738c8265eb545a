-- `decimal::by_digits` meets its contract: reading on is the same before a digit and after it (`read_on_digit`), and ends at the first byte that is not a digit, or at the end of the text.
use native.Mathlib.Omega.{arith}
use mathlib.Core.Path.{◌≡◌, refl, sym, ◌∙◌}
use mathlib.Core.Logic.{inl, inr, ⊎_elim}
use mathlib.Core.Bool.{true}
use lib.ListN.{get_or}
use Rattle.decimal.specs.Decimal.{is_digit}
use Rattle.decimal.proofs.Runs.{ascii_digit, digits_stop, digits_end}
use Rattle.decimal.proofs.Blocks.{digit_block, read_on_digit, read_on_end}
use Rattle.decimal.proofs.by_digits.Goals as goal
use Rattle.decimal.proofs.by_digits.Goals.{Else-not-is_ascii_digit}

pub loop-count-init : goal.loop-count-init
loop-count-init c = (refl, inl (omega arith))

pub returns-then-not-is_ascii_digit : goal.returns-then-not-is_ascii_digit
returns-then-not-is_ascii_digit c =
    read_on_end _ _ _ (digits_stop _ _ c.loop-count-test.true (sym (ascii_digit _) ∙ sym c.is_ascii_digit.ensures.value ∙ c.if-not-is_ascii_digit.true))
    ∙ sym c.loop-count.invariant.0

-- what the test that was passed says of the byte
is_one : (c : goal.Else-not-is_ascii_digit) → is_digit (get_or c.args.text.now c.loop-count.count 0) ≡ true
is_one c = sym (ascii_digit _) ∙ sym c.is_ascii_digit.ensures.value ∙ c.if-not-is_ascii_digit.false

pub loop-count-preserved : goal.loop-count-preserved
loop-count-preserved c = (
  c.loop-count.invariant.0
      ∙ read_on_digit _ _ _ _ c.loop-count-test.true (is_one (goal.at.loop-count-preserved c).Else-not-is_ascii_digit) (c.with_block-number.ensures ∙ digit_block _ _),
  inr (omega (arith, c.loop-count-test.true)),
)

pub returns : goal.returns
returns c =
    let l = c.loop-count in
    let end : c.max.result ≡ l.count =
    ⊎_elim
    (λ h. omega (arith, h, c.max.ensures, l.auto.count, c.loop-count-test.false))
    (λ h. omega (arith, h, c.max.ensures, l.auto.count, c.loop-count-test.false))
    l.invariant.1 in
    rw end (read_on_end _ _ _ (digits_end _ _ c.loop-count-test.false) ∙ sym l.invariant.0)
