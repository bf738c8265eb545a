-- A string is scanned once: its end and the length of its bytes; what is no string is read and refused.
use Rattle.refusal.specs.Answers.{answer}
use Prim.Native.Nat.{ℕ, ◌+◌}
use native.Mathlib.Omega.{arith}
use mathlib.Core.Path.{sym, ap, ◌∙◌}
use lib.ListN.{length}
use Rattle.counts.specs.Outcome.{gives}
use Rattle.literal_escapes.specs.Strings.{spelled}
use Rattle.literal_escapes.specs.declared.Scan.{Scan}
use Rattle.literal_bytes.proofs.Positions.{get_d_any}
use Rattle.descr_totals.specs.Totals.{name_totals}
use Rattle.descr_field.proofs.Begins.{string_in}
use Rattle.descr_field.proofs.Names.{string_ends, name_string, name_other}
use Rattle.descr_field.proofs.name_at.Goals as goal

pub overflow_add-at : goal.overflow_add-at
overflow_add-at c =
    let lt = string_in c.args.text.now c.args.at (sym c.string_at.ensures ∙ c.if-string_at.true) in
    omega arith

pub bounds-text-at : goal.bounds-text-at
bounds-text-at c = string_in c.args.text.now c.args.at (sym c.string_at.ensures ∙ c.if-string_at.true)

pub returns-then-string_at : goal.returns-then-string_at
returns-then-string_at c =
    let a = c.args in
    let s = a.text.now in
    let k = sym c.string_at.ensures ∙ c.if-string_at.true in
    let quote = get_d_any s a.at 0 256 (string_in s a.at k) in
    let end = ap (λ (r : Scan). r.ended) c.scan_at-s.ensures ∙ ap (λ (b : ℕ). (spelled b s (a.at + 1)).ended) quote in
    let len = ap (λ (r : Scan). r.len) c.scan_at-s.ensures ∙ ap (λ (b : ℕ). length (spelled b s (a.at + 1)).bytes) quote in
    record { ended_value = string_ends s a.at a.room _ k end; verdict_value = ap gives (c.named.ensures ∙ ap name_totals len) ∙ name_string s a.at k }

pub returns : goal.returns
returns c =
    let a = c.args in
    record { ended_value = c.wrong_form.ensures.ended_value ∙ c.value.ensures; verdict_value = ap answer c.wrong_form.ensures.verdict_value ∙ name_other a.text.now a.at (sym c.string_at.ensures ∙ c.if-string_at.false) }
