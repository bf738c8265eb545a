-- The invariant: what is left of the word, from `at` on, ends as the whole word does.
use mathlib.Core.Path.{◌≡◌, sym, ◌∙◌}
use native.Mathlib.Omega.{arith}
use Prim.Native.Nat.{◌<◌}
use lib.ListN.{length, get_or}
use Rattle.literal_bytes.specs.Text.{byte_at}
use Rattle.literal_bytes.proofs.Positions.{byte_in}
use Rattle.literal_tokens.proofs.Words.{word_more, word_fault, word_end}
use Rattle.literal_tokens.proofs.word.Goals as goal

pub returns-then-peek-b : goal.returns-then-peek-b
returns-then-peek-b c =
    let l = c.loop-b in
    sym (l.invariant ∙ word_fault c.args.expected.now c.args.text.now l.b-index l.at c.loop-b-test.true (λ e. c.if-peek-b.true (c.peek.ensures ∙ e)))

pub overflow_add-at : goal.overflow_add-at
overflow_add-at c =
    let s = c.args.text.now in
    let w = c.args.expected.now in
    let l = c.loop-b in
    let h : byte_at s l.at ≡ get_or w l.b-index 0 = sym c.peek.ensures ∙ c.if-peek-b.false in
    let lt : l.at < length s = byte_in s l.at (get_or w l.b-index 0) h (c.type_inv.expected l.b-index).fits in
    omega arith

pub loop-b-preserved : goal.loop-b-preserved
loop-b-preserved c =
    let s = c.args.text.now in
    let w = c.args.expected.now in
    let l = c.loop-b in
    let h : byte_at s l.at ≡ get_or w l.b-index 0 = sym c.peek.ensures ∙ c.if-peek-b.false in
    l.invariant ∙ word_more w s l.b-index l.at c.loop-b-test.true h

pub returns : goal.returns
returns c = sym (c.loop-b.invariant ∙ word_end c.args.expected.now c.args.text.now c.loop-b.b-index c.loop-b.at c.loop-b-test.false)
