-- At a comma, one space and a byte above the space, an item begins at that byte: no blank is before the comma, and none after the space. At the closing bracket, no blank
-- is before it.
use Prim.Native.Nat.{ℕ, ◌+◌, ◌<◌, ◌≤◌}
use native.Mathlib.Omega.{arith}
use mathlib.Core.Path.{◌≡◌, refl, sym, ap, ◌∙◌}
use mathlib.Core.List.{List}
use mathlib.Core.Bool.{true, false, not, ◌&&◌}
use lib.ListN.{length}
use lib.Dec.{eqb, leb, ltb}
use borrow.Author.Tests.{leb-true, ltb-true, eqb-true, eqb-false, ne_eqb, not-true}
use Rattle.literal_grammar.specs.Bytes.{is_blank}
use Rattle.literal_grammar.proofs.Texts.{above_blanks}
use Rattle.counts.proofs.Alike.{and_left, and_right}
use Rattle.literal_bytes.specs.Text.{byte_at, skip}
use Rattle.literal_bytes.proofs.Positions.{past_stop, past_more}
use Rattle.literal_bytes.specs.Gaps.{gap_at, then_at, comma_space_item_at, shut_at}
use Rattle.literal_bytes.specs.declared.Gap.TheVariants.{Shut, Item}

above_blank : (b : ℕ) → ltb 32 b ≡ true → is_blank b ≡ false
above_blank b h = above_blanks b (ltb-true 32 b h)

comma_no_blank : is_blank 44 ≡ false
unfolding is_blank
comma_no_blank = refl

space_blank : is_blank 32 ≡ true
unfolding is_blank
space_blank = refl

module _ (s : List ℕ) (at close : ℕ) where
  -- an item where the comma and that byte do not close
  item : at + 3 ≤ length s → byte_at s at ≡ 44 → byte_at s (at + 1) ≡ 32 → is_blank (byte_at s (at + 2)) ≡ false → eqb (byte_at s (at + 2)) close ≡ false → eqb close 44 ≡ false → then_at s at close ≡ Item (at + 2)
  unfolding then_at gap_at
  item le comma space above stays other =
      let here : skip s at ≡ at = past_stop is_blank s at (ap is_blank comma ∙ comma_no_blank) in
      let more : skip s (at + 1) ≡ skip s (at + 1 + 1) = past_more is_blank s (at + 1) (omega (arith, le)) (ap is_blank space ∙ space_blank) in
      let two : at + 1 + 1 ≡ at + 2 = omega arith in
      let there : skip s (at + 1) ≡ at + 2 = more ∙ ap (skip s) two ∙ past_stop is_blank s (at + 2) above in
      rw (here, comma, ne_eqb 44 close (λ e. eqb-false close 44 other (sym e)), there, stays)

  module _ (h : comma_space_item_at s at close ≡ true) where
    pub comma_space_item_in : at + 3 ≤ length s
    comma_space_item_in = leb-true (at + 3) (length s) (and_left (leb (at + 3) (length s)) _ h)

    pub comma_space_item_then : then_at s at close ≡ Item (at + 2)
    comma_space_item_then =
        let comma = eqb (byte_at s at) 44 in
        let space = eqb (byte_at s (at + 1)) 32 in
        let above = ltb 32 (byte_at s (at + 2)) in
        let stays = not (eqb (byte_at s (at + 2)) close) in
        let other = not (eqb close 44) in
        let five = and_right (leb (at + 3) (length s)) (comma && space && above && stays && other) h in
        let four = and_left (comma && space && above && stays) other five in
        let three = and_left (comma && space && above) stays four in
        let two = and_left (comma && space) above three in
        item comma_space_item_in
        (eqb-true (byte_at s at) 44 (and_left comma space two))
        (eqb-true (byte_at s (at + 1)) 32 (and_right comma space two))
        (above_blank (byte_at s (at + 2)) (and_right (comma && space) above three))
        (not-true (eqb (byte_at s (at + 2)) close) (and_right (comma && space && above) stays four))
        (not-true (eqb close 44) (and_right (comma && space && above && stays) other five))

  module _ (h : shut_at s at close ≡ true) where
    pub shut_in : at < length s
    shut_in = ltb-true at (length s) (and_left (ltb at (length s)) _ h)

    pub shut_then : then_at s at close ≡ Shut (at + 1)
    unfolding then_at
    shut_then =
        let closes = eqb (byte_at s at) close in
        let two = and_right (ltb at (length s)) (closes && ltb 32 close) h in
        let is = eqb-true (byte_at s at) close (and_left closes (ltb 32 close) two) in
        let here : skip s at ≡ at = past_stop is_blank s at (ap is_blank is ∙ above_blank close (and_right closes (ltb 32 close) two)) in
        rw (here, and_left closes (ltb 32 close) two)
