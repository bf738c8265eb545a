-- The definition's two comparisons.
use mathlib.Core.Path.{refl}
use Rattle.decimal.specs.Decimal.{is_digit}
use Rattle.literal_bytes.proofs.is_digit.Goals as goal

pub returns : goal.returns
unfolding is_digit
returns c = refl
