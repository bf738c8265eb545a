-- `utf8::shortest` meets its contract: each return is in one case of `shortest`.
use mathlib.Core.Path.{sym, ◌∙◌}
use Rattle.utf8.proofs.Decoding.{shortest_is, shortest_low, shortest_not}
use Rattle.utf8.proofs.shortest.Goals as goal
use Rattle.utf8.proofs.shortest.Goals.{else-least-value-via-then-least-value+else-is_scalar, else-least-value-via-else-least-value}

pub returns-then-is_scalar : goal.returns-then-is_scalar
returns-then-is_scalar c = sym (shortest_is _ _ _ c.if-least-value.true (sym c.is_scalar.ensures ∙ c.if-is_scalar.true))

pub returns-else-least-value : goal.returns-else-least-value
returns-else-least-value c = elim c.else-least-value.branch [
  | else-least-value-via-then-least-value+else-is_scalar w ↦ sym (shortest_not _ _ _ w.if-least-value.true (sym w.is_scalar.ensures ∙ w.if-is_scalar.false))
  | else-least-value-via-else-least-value w ↦ sym (shortest_low _ _ _ w.if-least-value.false)
]
