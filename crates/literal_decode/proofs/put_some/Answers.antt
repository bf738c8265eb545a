-- The invariant: storing what is left of the run at its place gives the whole. What is left after those that have room is not stored.
use Prim.Native.Nat.{ℕ, ◌+◌, ◌<◌}
use mathlib.Core.Path.{◌≡◌, refl, ap, ◌∙◌}
use native.Mathlib.Omega.{arith}
use lib.ListN.{length, get_or, drop, set, length-set}
use lib.Seq.{sets}
use Rattle.literal_decode.proofs.Stored.{stored_next, stored_outside, stored_fit}
use Rattle.literal_decode.proofs.put_some.Goals as goal

pub returns-then-out-from : goal.returns-then-out-from
returns-then-out-from c = stored_outside c.args.out.now c.args.run.now c.args.from c.if-out-from.true

pub loop-i-init : goal.loop-i-init
loop-i-init c =
    let a = c.args in
    let from : a.from + 0 ≡ a.from = omega arith in
    (refl, ap (λ (k : ℕ). sets a.out.now k a.run.now) from)

pub loop-i-preserved : goal.loop-i-preserved
loop-i-preserved c =
    let a = c.args in
    let l = c.loop-i in
    let lt : l.i < length a.run.now = omega (arith, c.min-fit.ensures, c.loop-i-test.true) in
    let next : a.from + (l.i + 1) ≡ a.from + l.i + 1 = omega arith in
    (length-set l.out (a.from + l.i) _ ∙ l.invariant.0, ap (λ (k : ℕ). sets (set l.out (a.from + l.i) (get_or a.run.now l.i 0)) k (drop (l.i + 1) a.run.now)) next ∙ stored_next l.out a.run.now (a.from + l.i) l.i lt ∙ l.invariant.1)

pub shape_of-out : goal.shape_of-out
shape_of-out c = c.loop-i.invariant.0

pub returns : goal.returns
returns c =
    let a = c.args in
    let l = c.loop-i in
    stored_fit l.out a.run.now a.from l.i (omega (arith, c.min-fit.ensures, c.loop-i-test.false, l.invariant.0)) ∙ l.invariant.1
