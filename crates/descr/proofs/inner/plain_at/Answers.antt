-- A string is read once: its end, and what it is as a type string.
use Prim.Native.Nat.{ℕ, ◌+◌}
use mathlib.Core.Path.{ap, ◌∙◌}
use Rattle.counts.specs.Outcome.{Outcome, each}
use Rattle.type_str.specs.declared.TypeStr.{TypeStr}
use Rattle.type_str.specs.TypeString.{type_string}
use Rattle.dtype.specs.Dtype.{plain}
use Rattle.literal_escapes.specs.Strings.{spelled}
use Rattle.literal_bytes.proofs.Positions.{get_d_any}
use Rattle.descr_totals.specs.Totals.{totals_of}
use Rattle.descr.proofs.inner.plain_at.Goals as goal

pub returns : goal.returns
returns c =
    let a = c.args in
    let s = a.text.now in
    let quote = get_d_any s a.at 0 256 c.requires in
    let end = c.typed_at-t.ensures.ended_value ∙ ap (λ (b : ℕ). (spelled b s (a.at + 1)).ended) quote in
    let read = c.typed_at-t.ensures.read_value ∙ ap (λ (b : ℕ). type_string (spelled b s (a.at + 1)).bytes) quote in
    record { ended_value = end; verdict_value = c.typed.ensures ∙ ap (λ (o : Outcome TypeStr). each (λ x. totals_of (plain x)) o) read }
