-- 8, the three keys one after the other, and the limits: the first that refuses decides.
use Rattle.counts.proofs.HandedOn.{handed_on}
use mathlib.Core.Path.{sym, ◌∙◌}
use borrow.Author.Tests.{not-true, not-false}
use Rattle.refusal.specs.declared.Refusal.{Refusal}
use Rattle.judge.proofs.Found.{shape_is, shape_refused, descr_is, descr_refused}
use Rattle.judge.proofs.Tests.{refused_by, limit_broken, limit_kept}
use Rattle.judge.proofs.Top.{not_dict, no_order, no_shape, no_descr, with_descr}
use Rattle.judge.proofs.judge_keys.Goals as goal

pub returns-then-not-walked : goal.returns-then-not-walked
returns-then-not-walked c = λ text at h. refused_by text at Refusal.NotDict _ (not_dict text at (sym h.of_strings ∙ not-true _ c.if-not-walked.true))

pub returns-in_err-order : goal.returns-in_err-order
returns-in_err-order c =
    λ text at h.
    let all = sym h.of_strings ∙ not-false _ c.if-not-walked.false in
    rw (handed_on _ c.in_err-order.field-0.0 c.from_residual.ensures)
    (refused_by text at c.in_err-order.field-0.0 _ (no_order text at all _ _ h.of_order c.in_err-order.was))

pub returns-in-Err : goal.returns-in-Err
returns-in-Err c =
    λ text at h.
    let all = sym h.of_strings ∙ not-false _ c.if-not-walked.false in
    refused_by text at _ _ (no_shape text at all _ _ h.of_order c.in_ok-order.was _ (shape_refused text at _ h.of_shape _ c.in-Err.is))

pub returns-in_err-descr : goal.returns-in_err-descr
returns-in_err-descr c =
    λ text at h.
    let all = sym h.of_strings ∙ not-false _ c.if-not-walked.false in
    let s = shape_is text at _ h.of_shape _ c.in-Ok.is in
    rw (handed_on _ c.in_err-descr.field-0.0 c.from_residual-in_err-descr.ensures)
    (refused_by text at c.in_err-descr.field-0.0 _ (no_descr text at all _ _ h.of_order c.in_ok-order.was s.0 s.1 _ (descr_refused text at _ h.of_descr _ c.in_err-descr.was)))

pub returns : goal.returns
returns c =
    λ text at h.
    let all = sym h.of_strings ∙ not-false _ c.if-not-walked.false in
    let s = shape_is text at _ h.of_shape _ c.in-Ok.is in
    let d = descr_is text at _ h.of_descr _ c.in_ok-descr.was in
    limit_kept text at s.0 d.0 _ _ _ s.2 d.2 _ c.within.ensures _ (with_descr text at all _ _ h.of_order c.in_ok-order.was s.0 s.1 d.0 d.1) c.in_ok-within.was

pub returns-in_err-within : goal.returns-in_err-within
returns-in_err-within c =
    λ text at h.
    let all = sym h.of_strings ∙ not-false _ c.if-not-walked.false in
    let s = shape_is text at _ h.of_shape _ c.in-Ok.is in
    let d = descr_is text at _ h.of_descr _ c.in_ok-descr.was in
    rw (handed_on _ c.in_err-within.field-0.0 c.from_residual-in_err-within.ensures)
    (refused_by text at c.in_err-within.field-0.0 _ (with_descr text at all _ _ h.of_order c.in_ok-order.was s.0 s.1 d.0 d.1 ∙ limit_broken text at s.0 d.0 _ _ _ s.2 d.2 _ c.within.ensures _ c.in_err-within.was))
