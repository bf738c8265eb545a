-- `string_element::write_points` meets its contract: 27, 26, 29, 30, and then the room.
use mathlib.Core.Path.{sym, ◌∙◌}
use borrow.Author.Tests.{not-true, not-false}
use Rattle.counts.proofs.Owes.{owes_refused, owes_same}
use Rattle.string_value.proofs.Ways.{write_points_none, write_points_by, points_none, points_bad, points_long, points_fit}
use Rattle.string_element.proofs.write_points.Goals as goal

pub returns-then-not-is_type : goal.returns-then-not-is_type
returns-then-not-is_type c = owes_same _ _ _ _ _ (write_points_none c.args.t c.args.value.now _ (sym c.is_type.ensures ∙ not-true _ c.if-not-is_type.true-raw)) (owes_refused 27 _)

pub returns-then-not-is_unicode : goal.returns-then-not-is_unicode
returns-then-not-is_unicode c = owes_same _ _ _ _ _ (write_points_by c.args.t c.args.value.now _ (sym c.is_type.ensures ∙ not-false _ c.if-not-is_type.false-raw) _ (points_none _ _ (sym c.is_unicode.ensures ∙ not-true _ c.if-not-is_unicode.true-raw))) (owes_refused 26 _)

pub returns-then-not-all_scalars : goal.returns-then-not-all_scalars
returns-then-not-all_scalars c = owes_same _ _ _ _ _ (write_points_by c.args.t c.args.value.now _ (sym c.is_type.ensures ∙ not-false _ c.if-not-is_type.false-raw) _ (points_bad _ _ (sym c.is_unicode.ensures ∙ not-false _ c.if-not-is_unicode.false-raw) (sym c.all_scalars.ensures ∙ not-true _ c.if-not-all_scalars.true-raw))) (owes_refused 29 _)

pub returns-then-t-value : goal.returns-then-t-value
returns-then-t-value c = owes_same _ _ _ _ _ (write_points_by c.args.t c.args.value.now _ (sym c.is_type.ensures ∙ not-false _ c.if-not-is_type.false-raw) _ (points_long _ _ (sym c.is_unicode.ensures ∙ not-false _ c.if-not-is_unicode.false-raw) (sym c.all_scalars.ensures ∙ not-false _ c.if-not-all_scalars.false-raw) c.if-t-value.true)) (owes_refused 30 _)

pub returns : goal.returns
returns c = owes_same _ _ _ _ _ (write_points_by c.args.t c.args.value.now _ (sym c.is_type.ensures ∙ not-false _ c.if-not-is_type.false-raw) _ (points_fit _ _ (sym c.is_unicode.ensures ∙ not-false _ c.if-not-is_unicode.false-raw) (sym c.all_scalars.ensures ∙ not-false _ c.if-not-all_scalars.false-raw) c.if-t-value.false)) c.place_points.ensures
