-- `value::read` meets its contract: the checks in their order, and then the value.
use mathlib.Core.Path.{sym, ap, ◌∙◌}
use borrow.Author.Tests.{not-true, not-false}
use Rattle.value.specs.declared.Form.{Form}
use Rattle.value.specs.Values.{has_no_value, value_by}
use Rattle.value.proofs.Forms.{sized, no_type_lem, no_value_lem, no_length, as_value}
use Rattle.value.proofs.read.Goals as goal

pub returns-then-not-is_type : goal.returns-then-not-is_type
returns-then-not-is_type c = no_type_lem c.args.t c.args.run.now (sym c.is_type.ensures ∙ not-true _ c.if-not-is_type.true-raw)

pub returns-then-has_no_value : goal.returns-then-has_no_value
returns-then-has_no_value c = no_value_lem c.args.t c.args.run.now (sym c.is_type.ensures ∙ not-false _ c.if-not-is_type.false-raw) (sym (c.has_no_value.ensures ∙ ap has_no_value c.form_of-form.ensures) ∙ c.if-has_no_value.true)

pub returns-then-run-t : goal.returns-then-run-t
returns-then-run-t c = no_length c.args.t c.args.run.now (sym c.is_type.ensures ∙ not-false _ c.if-not-is_type.false-raw) (sym (c.has_no_value.ensures ∙ ap has_no_value c.form_of-form.ensures) ∙ c.if-has_no_value.false) c.if-run-t.true

pub value_by-requires : goal.value_by-requires
value_by-requires c = sized c.args.t _ _ (sym c.is_type.ensures ∙ not-false _ c.if-not-is_type.false-raw) c.form_of-form.ensures c.if-run-t.false

pub returns : goal.returns
returns c = c.value_by.ensures ∙ ap (λ (f : Form). value_by f c.args.t.order c.args.t.units c.args.run.now) c.form_of-form.ensures ∙ as_value c.args.t c.args.run.now (sym c.is_type.ensures ∙ not-false _ c.if-not-is_type.false-raw) (sym (c.has_no_value.ensures ∙ ap has_no_value c.form_of-form.ensures) ∙ c.if-has_no_value.false) c.if-run-t.false
