-- `type_print::put` meets its contract: order, letter, size where there is one, units.
use mathlib.Core.Path.{sym, ◌∙◌}
use Rattle.emit.proofs.Pieces.{emits_byte}
use Rattle.type_print.proofs.Texts.{object_emits, sized_emits}
use Rattle.type_print.proofs.put.Goals as goal

pub returns-then-is_object : goal.returns-then-is_object
returns-then-is_object c =
    object_emits _ _ _ _ _ _ _ (emits_byte _ _ _ _ _ _ c.to_byte.ensures c.put-after_order.ensures) (emits_byte _ _ _ _ _ _ c.to_byte-2.ensures c.put-after_letter.ensures)
    _ _ (sym c.is_object.ensures ∙ c.if-is_object.true) c.put.ensures

pub returns : goal.returns
returns c =
    sized_emits _ _ _ _ _ _ _ (emits_byte _ _ _ _ _ _ c.to_byte.ensures c.put-after_order.ensures) (emits_byte _ _ _ _ _ _ c.to_byte-2.ensures c.put-after_letter.ensures)
    _ _ _ _ (sym c.is_object.ensures ∙ c.if-is_object.false) c.put_count-after_size.ensures c.put-2.ensures
