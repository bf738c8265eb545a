-- One byte decides for the closing bracket, three for an item; otherwise `then_any` decides.
use mathlib.Core.Path.{sym, ◌∙◌}
use native.Mathlib.Omega.{arith}
use Rattle.literal_bytes.proofs.Returns.{comma_space_item_in, comma_space_item_then, shut_in, shut_then}
use Rattle.literal_bytes.proofs.then_at.Goals as goal

pub overflow_add-result : goal.overflow_add-result
overflow_add-result c =
    let a = c.args in
    omega (arith, shut_in a.text.now a.at a.close (sym c.shut_at.ensures ∙ c.if-shut_at.true))

pub returns-then-shut_at : goal.returns-then-shut_at
returns-then-shut_at c =
    let a = c.args in
    sym (shut_then a.text.now a.at a.close (sym c.shut_at.ensures ∙ c.if-shut_at.true))

pub overflow_add-result-then-comma_space_item : goal.overflow_add-result-then-comma_space_item
overflow_add-result-then-comma_space_item c =
    let a = c.args in
    omega (arith, comma_space_item_in a.text.now a.at a.close (sym c.comma_space_item.ensures ∙ c.if-comma_space_item.true))

pub returns-then-comma_space_item : goal.returns-then-comma_space_item
returns-then-comma_space_item c =
    let a = c.args in
    sym (comma_space_item_then a.text.now a.at a.close (sym c.comma_space_item.ensures ∙ c.if-comma_space_item.true))
