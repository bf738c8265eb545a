-- The byte after the blanks decides, as in the definition; where it is a byte it is in the text, so the position after it fits.
use borrow.Author.Tests.{eq-eqb, ne_eqb}
use mathlib.Core.Path.{sym, ◌∙◌}
use native.Mathlib.Omega.{arith}
use Rattle.literal_bytes.proofs.Positions.{byte_in}
use Rattle.literal_bytes.specs.Gaps.{need_at}
use Rattle.literal_bytes.proofs.need.Goals as goal

pub overflow_add-result : goal.overflow_add-result
overflow_add-result c =
    let s = c.args.text.now in
    let lt = byte_in s c.blanks-p.result c.args.b (sym c.peek.ensures ∙ c.if-peek-b.true) c.ranges.b.fits in
    omega arith

pub returns-then-peek-b : goal.returns-then-peek-b
unfolding need_at
returns-then-peek-b c = simp (need_at, sym c.blanks-p.ensures, sym c.peek.ensures, eq-eqb _ _ c.if-peek-b.true)

pub returns-else-peek-b : goal.returns-else-peek-b
unfolding need_at
returns-else-peek-b c = simp (need_at, sym c.blanks-p.ensures, sym c.peek.ensures, ne_eqb _ _ c.if-peek-b.false)
