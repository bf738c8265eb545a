-- The larger less the smaller, after the sign.
use mathlib.Core.List.{◌∷◌}
use borrow.Author.Tests.{le-leb, lt-leb}
use Prim.Native.Nat.{◌-◌}
use lib.Dec.{leb}
use Rattle.decimal.specs.Decimal.{printed}
use Rattle.emit.proofs.Pieces.{emits_then}
use Rattle.element_text.proofs.Pieces.{emits_if, emits_else}
use Rattle.element_text.proofs.put_exponent.Goals as goal

pub returns-then-bias-exponent : goal.returns-then-bias-exponent
returns-then-bias-exponent c = let a = c.args in emits_if (λ x. 43 ∷ printed (a.exponent - a.bias) x) (λ x. 45 ∷ printed (a.bias - a.exponent) x) (leb a.bias a.exponent) _ _ _ _ (le-leb a.bias a.exponent c.if-bias-exponent.true) (emits_then (λ x. 43 ∷ x) (printed (a.exponent - a.bias)) _ _ _ _ _ _ c.put-after_plus.ensures c.put_count.ensures)

pub returns : goal.returns
returns c = let a = c.args in emits_else (λ x. 43 ∷ printed (a.exponent - a.bias) x) (λ x. 45 ∷ printed (a.bias - a.exponent) x) (leb a.bias a.exponent) _ _ _ _ (lt-leb a.bias a.exponent c.if-bias-exponent.false) (emits_then (λ x. 45 ∷ x) (printed (a.bias - a.exponent)) _ _ _ _ _ _ c.put-after_minus.ensures c.put_count-2.ensures)
