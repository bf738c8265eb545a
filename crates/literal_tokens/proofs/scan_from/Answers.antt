-- The invariant: the string is the bytes passed, followed by its pieces from `at` on; `len` and `escape` describe the bytes passed. A turn passes an escape, or a run of
-- plain bytes and the piece after it.
use mathlib.Core.Path.{refl, sym, ap, subst, ◌∙◌}
use mathlib.Core.List.{[], ◌∷◌, ◌++◌}
use mathlib.Core.Bool.{Bool, ◌||◌, or-true}
use native.Mathlib.Omega.{arith}
use lib.ListN.{length-append}
use Rattle.literal_bytes.specs.Text.{part}
use Rattle.literal_escapes.specs.Strings.{scanned}
use Rattle.literal_escapes.proofs.Spelling.{byte_ahead, Along, along_start, along_close, along_bad, along_byte}
use Rattle.literal_escapes.proofs.Plain.{plain_from, plain_count, plain_escape, along_plain}
use Rattle.literal_escapes.proofs.Here.{means, here_within, along_here}
use Rattle.literal_tokens.proofs.scan_from.Goals as goal

pub loop-escape-init : goal.loop-escape-init
loop-escape-init c = ([], refl, along_start c.args.quote c.args.text.now c.args.from)

pub overflow_add-len : goal.overflow_add-len
overflow_add-len c =
    let a = c.args in
    let l = c.loop-escape in
    omega (arith, l.invariant.1, l.invariant.2.far, here_within a.quote a.text.now l.at _ c.escape_here.ensures c.if-escape_here.true)

pub overflow_add-at : goal.overflow_add-at
overflow_add-at c =
    let a = c.args in
    omega (arith, here_within a.quote a.text.now c.loop-escape.at _ c.escape_here.ensures c.if-escape_here.true)

pub loop-escape-smaller-then-escape_here : goal.loop-escape-smaller-then-escape_here
loop-escape-smaller-then-escape_here c =
    let a = c.args in
    omega (arith, here_within a.quote a.text.now c.loop-escape.at _ c.escape_here.ensures c.if-escape_here.true)

pub loop-escape-preserved-then-escape_here : goal.loop-escape-preserved-then-escape_here
loop-escape-preserved-then-escape_here c =
    let a = c.args in
    let l = c.loop-escape in
    let b = means a.text.now l.at in
    (l.invariant.0 ++ b ∷ [], omega (arith, l.invariant.1, length-append l.invariant.0 (b ∷ [])), along_here a.quote a.text.now l.at _ c.escape_here.ensures c.if-escape_here.true a.from l.invariant.0 l.escape l.invariant.2)

pub overflow_sub-len : goal.overflow_sub-len
overflow_sub-len c = omega (arith, plain_from c.args.quote c.args.text.now c.loop-escape.at c.plain_to-to.result c.plain_to-to.ensures)

pub overflow_add-len-in-loop-escape : goal.overflow_add-len-in-loop-escape
overflow_add-len-in-loop-escape c =
    let q = c.args.quote in
    let s = c.args.text.now in
    let from = c.args.from in
    let l = c.loop-escape in
    let to = c.plain_to-to.result in
    let w = along_plain q s from l.at to l.invariant.0 l.escape c.plain_to-to.ensures l.invariant.2 in
    let n = plain_count q s l.at to c.plain_to-to.ensures l.invariant.0 l.len l.invariant.1 in
    omega (arith, n, w.far)

pub returns-in-Close : goal.returns-in-Close
returns-in-Close c =
    let q = c.args.quote in
    let s = c.args.text.now in
    let from = c.args.from in
    let l = c.loop-escape in
    let to = c.plain_to-to.result in
    let w = along_plain q s from l.at to l.invariant.0 l.escape c.plain_to-to.ensures l.invariant.2 in
    let n = plain_count q s l.at to c.plain_to-to.ensures l.invariant.0 l.len l.invariant.1 in
    let e = along_close q s from to _ l.escape _ w (sym c.piece_at.ensures ∙ c.in-Close.is) in
    rw n (sym (ap scanned e))

pub returns-in-Bad : goal.returns-in-Bad
returns-in-Bad c =
    let q = c.args.quote in
    let s = c.args.text.now in
    let from = c.args.from in
    let l = c.loop-escape in
    let to = c.plain_to-to.result in
    let w = along_plain q s from l.at to l.invariant.0 l.escape c.plain_to-to.ensures l.invariant.2 in
    let n = plain_count q s l.at to c.plain_to-to.ensures l.invariant.0 l.len l.invariant.1 in
    let e = along_bad q s from to _ l.escape _ w (sym c.piece_at.ensures ∙ c.in-Bad.is) in
    rw n (sym (ap scanned e))

pub overflow_add-len-in-Byte : goal.overflow_add-len-in-Byte
overflow_add-len-in-Byte c =
    let q = c.args.quote in
    let s = c.args.text.now in
    let from = c.args.from in
    let l = c.loop-escape in
    let to = c.plain_to-to.result in
    let w = along_plain q s from l.at to l.invariant.0 l.escape c.plain_to-to.ensures l.invariant.2 in
    let n = plain_count q s l.at to c.plain_to-to.ensures l.invariant.0 l.len l.invariant.1 in
    let ahead = byte_ahead q s to _ _ (sym c.piece_at.ensures ∙ c.in-Byte.is) in
    omega (arith, n, w.far)

pub loop-escape-smaller : goal.loop-escape-smaller
loop-escape-smaller c =
    let q = c.args.quote in
    let s = c.args.text.now in
    let ahead = byte_ahead q s c.plain_to-to.result _ _ (sym c.piece_at.ensures ∙ c.in-Byte.is) in
    omega (arith, plain_from q s c.loop-escape.at c.plain_to-to.result c.plain_to-to.ensures)

pub loop-escape-preserved : goal.loop-escape-preserved
loop-escape-preserved c =
    let q = c.args.quote in
    let s = c.args.text.now in
    let from = c.args.from in
    let l = c.loop-escape in
    let to = c.plain_to-to.result in
    let w = along_plain q s from l.at to l.invariant.0 l.escape c.plain_to-to.ensures l.invariant.2 in
    let n = plain_count q s l.at to c.plain_to-to.ensures l.invariant.0 l.len l.invariant.1 in
    let h = sym c.piece_at.ensures ∙ c.in-Byte.is in
    let us = l.invariant.0 ++ part s l.at to in
    let b = c.in-Byte.field-0 in
    let esc = ap (λ (x : Bool). l.escape || x) (plain_escape q s l.at to c.plain_to-to.ensures _ _ h) ∙ or-true l.escape in
    let more = along_byte q s from to us l.escape _ _ w h in
    (us ++ b ∷ [], omega (arith, n, length-append us (b ∷ [])), subst (λ (x : Bool). Along q s from c.in-Byte.e (us ++ b ∷ []) x) esc more)
