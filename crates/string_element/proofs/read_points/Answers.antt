-- `string_element::read_points` meets its contract: 27; only U has code points; then what was judged, and the room.
use Rattle.counts.proofs.HandedOn.{handed_on}
use mathlib.Core.Path.{◌≡◌, sym, ◌∙◌}
use mathlib.Core.Bool.{true}
use borrow.Author.Tests.{not-true, not-false}
use Rattle.counts.proofs.OneOutcome.{matched}
use Rattle.refusal.specs.Answers.{points_answer}
use Rattle.type_letters.specs.Letters.{is_unicode}
use Rattle.type_str.specs.Text.{is_type}
use Rattle.counts.proofs.Owes.{owes_refused, owes_same}
use Rattle.string_value.proofs.Ways.{read_points_none, read_points_other, read_points_bad, read_points_short, read_points_inside, read_points_whole}
use Rattle.string_element.proofs.read_points.Goals as goal
use Rattle.string_element.proofs.read_points.Goals.{Else-not-is_unicode}

pub returns-then-not-is_type : goal.returns-then-not-is_type
returns-then-not-is_type c = owes_same _ _ _ _ _ (read_points_none c.args.t c.args.run.now c.args.out.now (sym c.is_type.ensures ∙ not-true _ c.if-not-is_type.true-raw)) (owes_refused 27 _)

pub returns-then-not-is_unicode : goal.returns-then-not-is_unicode
returns-then-not-is_unicode c = owes_same _ _ _ _ _ (read_points_other c.args.t c.args.run.now c.args.out.now (sym c.is_type.ensures ∙ not-false _ c.if-not-is_type.false-raw) (sym c.is_unicode.ensures ∙ not-true _ c.if-not-is_unicode.true-raw)) (owes_refused 26 _)

-- past 27 and 26
typed : (c : goal.Else-not-is_unicode) → is_type c.args.t ≡ true
typed c = sym c.is_type.ensures ∙ not-false _ c.if-not-is_type.false-raw

unicode : (c : goal.Else-not-is_unicode) → is_unicode c.args.t.letter ≡ true
unicode c = sym c.is_unicode.ensures ∙ not-false _ c.if-not-is_unicode.false-raw

pub returns-in_err-n : goal.returns-in_err-n
returns-in_err-n c = rw (handed_on _ c.in_err-n.field-0.0 c.from_residual.ensures)
    ((owes_same _ _ _ _ _ (read_points_bad _ _ _ (typed (goal.at.returns-in_err-n c).Else-not-is_unicode) (unicode (goal.at.returns-in_err-n c).Else-not-is_unicode) _ (matched points_answer c.judge.ensures c.in_err-n.was)) (owes_refused _ _)))

pub returns-then-out-n : goal.returns-then-out-n
returns-then-out-n c =
    read_points_short _ _ _ (typed (goal.at.returns-then-out-n c).Else-not-is_unicode) (unicode (goal.at.returns-then-out-n c).Else-not-is_unicode) _
    (matched points_answer c.judge.ensures c.in_ok-n.was) c.if-out-n.true

pub copy_points-requires : goal.copy_points-requires
copy_points-requires c =
    let a = c.args in (
      read_points_inside _ a.run.now a.out.now (typed (goal.at.copy_points-requires c).Else-not-is_unicode) (unicode (goal.at.copy_points-requires c).Else-not-is_unicode) _
          (matched points_answer c.judge.ensures c.in_ok-n.was),
      c.if-out-n.false,
    )

pub returns : goal.returns
returns c =
    read_points_whole _ _ _ (typed (goal.at.returns c).Else-not-is_unicode) (unicode (goal.at.returns c).Else-not-is_unicode) _
    (matched points_answer c.judge.ensures c.in_ok-n.was) _ _
    c.if-out-n.false c.copy_points.ensures.0 c.copy_points.ensures.1
