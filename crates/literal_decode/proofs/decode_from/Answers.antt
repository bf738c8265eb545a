-- The invariant: the string is the bytes passed, followed by its pieces from `at` on; the bytes passed, `len` of them, are stored, and `escape` is whether one of them is an
-- escape. A turn stores the byte of an escape, or a run of plain bytes and the byte of the escape after it.
use borrow.Enum.Refused.{opened}
use Prim.Native.Nat.{ℕ}
use mathlib.Core.Path.{refl, sym, ap, subst, ◌∙◌}
use mathlib.Core.Bool.{Bool, ◌||◌, or-true}
use mathlib.Core.List.{[], ◌∷◌, ◌++◌}
use native.Mathlib.Omega.{arith}
use lib.ListN.{length, set, length-append}
use lib.Seq.{sets, length-sets}
use Rattle.literal_bytes.specs.Text.{part}
use Rattle.literal_escapes.specs.Strings.{Spelled, scanned}
use Rattle.literal_escapes.proofs.Spelling.{byte_ahead, Along, along_start, along_stop, along_byte}
use Rattle.literal_escapes.proofs.Plain.{plain_from, plain_within, plain_count, plain_escape, along_plain, spelled_outside}
use Rattle.literal_escapes.proofs.Here.{means, here_within, along_here, means_in}
use Rattle.literal_decode.proofs.Stored.{stored_more}
use Rattle.literal_decode.proofs.decode_from.Goals as goal

pub returns-then-text-from : goal.returns-then-text-from
returns-then-text-from c =
    let a = c.args in
    let e = spelled_outside a.quote a.text.now a.from (omega (arith, c.if-text-from.true)) in
    record { value = sym (ap scanned e); out_after = sym (ap (λ (r : Spelled). sets a.out.now 0 r.bytes) e) }

pub loop-escape-init : goal.loop-escape-init
loop-escape-init c = ([], along_start c.args.quote c.args.text.now c.args.from, omega arith, refl, refl)

pub overflow_add-at : goal.overflow_add-at
overflow_add-at c =
    let a = c.args in
    let l = c.loop-escape in
    omega (arith, here_within a.quote a.text.now l.at _ c.escape_here.ensures c.if-escape_here.true)

pub bounds-text-at : goal.bounds-text-at
bounds-text-at c =
    let a = c.args in
    let l = c.loop-escape in
    omega (arith, here_within a.quote a.text.now l.at _ c.escape_here.ensures c.if-escape_here.true)

pub overflow_add-len : goal.overflow_add-len
overflow_add-len c =
    let a = c.args in
    let l = c.loop-escape in
    omega (arith, l.invariant.3, l.invariant.1.far, here_within a.quote a.text.now l.at _ c.escape_here.ensures c.if-escape_here.true)

pub overflow_add-at-then-escape_here : goal.overflow_add-at-then-escape_here
overflow_add-at-then-escape_here c =
    let a = c.args in
    let l = c.loop-escape in
    omega (arith, here_within a.quote a.text.now l.at _ c.escape_here.ensures c.if-escape_here.true)

pub loop-escape-smaller-then-escape_here : goal.loop-escape-smaller-then-escape_here
loop-escape-smaller-then-escape_here c =
    let a = c.args in
    let l = c.loop-escape in
    omega (arith, here_within a.quote a.text.now l.at _ c.escape_here.ensures c.if-escape_here.true)

pub loop-escape-preserved-then-escape_here : goal.loop-escape-preserved-then-escape_here
loop-escape-preserved-then-escape_here c =
    let a = c.args in
    let l = c.loop-escape in
    let s = a.text.now in
    let said = c.escape_here.ensures in
    let yes = c.if-escape_here.true in
    let us = l.invariant.0 in
    let b = means s l.at in
    let byte = c.unescape.ensures ∙ means_in a.quote s l.at _ said yes in
    let stored = c.put.ensures ∙ ap (λ (x : ℕ). set l.out l.len x) byte ∙ stored_more a.out.now us (b ∷ []) _ _ l.invariant.3 l.invariant.4 in
    (us ++ b ∷ [], along_here a.quote s l.at _ said yes a.from us l.escape l.invariant.1, here_within a.quote s l.at _ said yes, omega (arith, l.invariant.3, length-append us (b ∷ [])), stored)

pub slice_bounds-put_run-count : goal.slice_bounds-put_run-count
slice_bounds-put_run-count c = omega (arith, plain_from c.args.quote c.args.text.now c.loop-escape.at c.plain_to-to.result c.plain_to-to.ensures)

pub slice_bounds-put_run-start : goal.slice_bounds-put_run-start
slice_bounds-put_run-start c = omega (arith, c.loop-escape.invariant.2, plain_from c.args.quote c.args.text.now c.loop-escape.at c.plain_to-to.result c.plain_to-to.ensures)

pub slice_bounds-put_run-end : goal.slice_bounds-put_run-end
slice_bounds-put_run-end c =
    let q = c.args.quote in
    let s = c.args.text.now in
    let h = c.plain_to-to.ensures in
    omega (arith, plain_from q s c.loop-escape.at c.plain_to-to.result h, plain_within q s c.loop-escape.at c.plain_to-to.result h c.loop-escape.invariant.2)

pub overflow_sub-len : goal.overflow_sub-len
overflow_sub-len c = omega (arith, plain_from c.args.quote c.args.text.now c.loop-escape.at c.plain_to-to.result c.plain_to-to.ensures)

pub overflow_add-len-in-loop-escape : goal.overflow_add-len-in-loop-escape
overflow_add-len-in-loop-escape c =
    let q = c.args.quote in
    let s = c.args.text.now in
    let from = c.args.from in
    let l = c.loop-escape in
    let to = c.plain_to-to.result in
    let w = along_plain q s from l.at to l.invariant.0 l.escape c.plain_to-to.ensures l.invariant.1 in
    let n = plain_count q s l.at to c.plain_to-to.ensures l.invariant.0 l.len l.invariant.3 in
    omega (arith, n, w.far)

pub shape_of-out-in_default : goal.shape_of-out-in_default
shape_of-out-in_default c =
    let l = c.loop-escape in
    ap length c.put_run.ensures ∙ length-sets l.out l.len (part c.args.text.now l.at c.plain_to-to.result) ∙ ap length l.invariant.4 ∙ length-sets c.args.out.now 0 l.invariant.0

pub returns-in_default : goal.returns-in_default
returns-in_default c =
    let q = c.args.quote in
    let s = c.args.text.now in
    let from = c.args.from in
    let l = c.loop-escape in
    let to = c.plain_to-to.result in
    let w = along_plain q s from l.at to l.invariant.0 l.escape c.plain_to-to.ensures l.invariant.1 in
    let n = plain_count q s l.at to c.plain_to-to.ensures l.invariant.0 l.len l.invariant.3 in
    let old = c.args.out.now in
    let us = l.invariant.0 ++ part s l.at to in
    let e = along_stop q s from to us l.escape _ w (sym c.piece_at-p.ensures) (opened c.in_default.in_default-own.keys2) in
    record { value = rw (n, c.end_by.ensures) (sym (ap scanned e)); out_after = c.put_run.ensures ∙ stored_more old l.invariant.0 (part s l.at to) _ _ l.invariant.3 l.invariant.4 ∙ sym (ap (λ (r : Spelled). sets old 0 r.bytes) e) }

pub overflow_add-len-in-loop-escape-2 : goal.overflow_add-len-in-loop-escape-2
overflow_add-len-in-loop-escape-2 c =
    let q = c.args.quote in
    let s = c.args.text.now in
    let from = c.args.from in
    let l = c.loop-escape in
    let to = c.plain_to-to.result in
    let w = along_plain q s from l.at to l.invariant.0 l.escape c.plain_to-to.ensures l.invariant.1 in
    let n = plain_count q s l.at to c.plain_to-to.ensures l.invariant.0 l.len l.invariant.3 in
    let ahead = byte_ahead q s to _ _ (sym c.piece_at-p.ensures ∙ c.in-Byte.is) in
    omega (arith, n, w.far)

pub loop-escape-smaller : goal.loop-escape-smaller
loop-escape-smaller c =
    let q = c.args.quote in
    let s = c.args.text.now in
    let ahead = byte_ahead q s c.plain_to-to.result _ _ (sym c.piece_at-p.ensures ∙ c.in-Byte.is) in
    omega (arith, plain_from q s c.loop-escape.at c.plain_to-to.result c.plain_to-to.ensures)

pub loop-escape-preserved : goal.loop-escape-preserved
loop-escape-preserved c =
    let q = c.args.quote in
    let s = c.args.text.now in
    let from = c.args.from in
    let l = c.loop-escape in
    let to = c.plain_to-to.result in
    let w = along_plain q s from l.at to l.invariant.0 l.escape c.plain_to-to.ensures l.invariant.1 in
    let n = plain_count q s l.at to c.plain_to-to.ensures l.invariant.0 l.len l.invariant.3 in
    let old = c.args.out.now in
    let us = l.invariant.0 ++ part s l.at to in
    let h = sym c.piece_at-p.ensures ∙ c.in-Byte.is in
    let b = c.in-Byte.b in
    let ahead = byte_ahead q s to _ _ h in
    let esc = ap (λ (x : Bool). l.escape || x) (plain_escape q s l.at to c.plain_to-to.ensures _ _ h) ∙ or-true l.escape in
    let more = along_byte q s from to us l.escape _ _ w h in
    let stored = c.put_run.ensures ∙ stored_more old l.invariant.0 (part s l.at to) _ _ l.invariant.3 l.invariant.4 in
    (us ++ b ∷ [], subst (λ (x : Bool). Along q s from c.in-Byte.e (us ++ b ∷ []) x) esc more, omega arith, omega (arith, n, length-append us (b ∷ [])), c.put-in-loop-escape.ensures ∙ stored_more old us (b ∷ []) _ _ n stored)
