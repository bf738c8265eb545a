-- The byte after the blanks decides, as in the definition; where it is a byte it is in the text, so the position after it fits.
use borrow.Author.Tests.{eq-eqb, ne_eqb}
use mathlib.Core.Path.{sym, ◌∙◌}
use native.Mathlib.Omega.{arith}
use Rattle.literal_bytes.proofs.Positions.{byte_in}
use Rattle.literal_bytes.specs.Gaps.{gap_at}
use Rattle.literal_bytes.proofs.gap_at.Goals as goal

pub overflow_add-result : goal.overflow_add-result
overflow_add-result c =
    let s = c.args.text.now in
    let lt = byte_in s c.blanks-p.result c.args.close (sym c.peek.ensures ∙ c.if-peek-close.true) c.ranges.close.fits in
    omega arith

pub returns-then-peek-close : goal.returns-then-peek-close
unfolding gap_at
returns-then-peek-close c = simp (gap_at, sym c.blanks-p.ensures, sym c.peek.ensures, eq-eqb _ _ c.if-peek-close.true)

pub returns-else-peek-close : goal.returns-else-peek-close
unfolding gap_at
returns-else-peek-close c = simp (gap_at, sym c.blanks-p.ensures, sym c.peek.ensures, ne_eqb _ _ c.if-peek-close.false)
