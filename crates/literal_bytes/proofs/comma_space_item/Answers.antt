-- The definition's tests, on bytes that are in the text.
use Prim.Native.Nat.{◌+◌, ◌≤◌}
use native.Mathlib.Omega.{arith}
use lib.ListN.{length}
use borrow.Author.Tests.{le-leb, lt-leb}
use Rattle.literal_bytes.proofs.Positions.{get_d_any}
use Rattle.literal_bytes.proofs.comma_space_item.Goals as goal

pub returns-then-text-lt3 : goal.returns-then-text-lt3
returns-then-text-lt3 c = rw (lt-leb (c.args.at + 3) (length c.args.text.now) (omega arith))

pub returns : goal.returns
returns c =
    let s = c.args.text.now in
    let at = c.args.at in
    let le : at + 3 ≤ length s = omega arith in
    let one = get_d_any s at 0 256 (omega (arith, le)) in
    let two = get_d_any s (at + 1) 0 256 (omega (arith, le)) in
    let three = get_d_any s (at + 2) 0 256 (omega (arith, le)) in
    rw (le-leb (at + 3) (length s) le, one, two, three)
