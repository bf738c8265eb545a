-- The byte after the blanks decides, as in the definition; where it is a byte it is in the text, so the position after it fits.
use borrow.Author.Tests.{eq-eqb, ne_eqb}
use mathlib.Core.Path.{sym, ◌∙◌}
use native.Mathlib.Omega.{arith}
use lib.Dec.{lit<}
use Rattle.literal_bytes.proofs.Positions.{byte_in}
use Rattle.literal_bytes.specs.Gaps.{then_at}
use Rattle.literal_bytes.proofs.then_any.Goals as goal

pub overflow_add-result : goal.overflow_add-result
overflow_add-result c =
    let s = c.args.text.now in
    let lt = byte_in s c.blanks-p.result c.args.close (sym c.peek-b.ensures ∙ c.if-b-close.true) c.ranges.close.fits in
    omega arith

pub returns-then-b-close : goal.returns-then-b-close
unfolding then_at
returns-then-b-close c = simp (then_at, sym c.blanks-p.ensures, sym c.peek-b.ensures, eq-eqb _ _ c.if-b-close.true)

pub overflow_add-p : goal.overflow_add-p
overflow_add-p c =
    let s = c.args.text.now in
    let lt = byte_in s c.blanks-p.result 44 (sym c.peek-b.ensures ∙ c.if-b-eq-COMMA.true) (lit< tt) in
    omega arith

pub returns-then-b-eq-COMMA : goal.returns-then-b-eq-COMMA
unfolding then_at
returns-then-b-eq-COMMA c = simp (then_at, sym c.blanks-p.ensures, sym c.peek-b.ensures, ne_eqb _ _ c.if-b-close.false, eq-eqb _ _ c.if-b-eq-COMMA.true) c.gap_at.ensures

pub returns : goal.returns
unfolding then_at
returns c = simp (then_at, sym c.blanks-p.ensures, sym c.peek-b.ensures, ne_eqb _ _ c.if-b-close.false, ne_eqb _ _ c.if-b-eq-COMMA.false)
