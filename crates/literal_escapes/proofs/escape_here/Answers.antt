-- The definition's tests. Where the text has no two bytes from the position on, the byte after it is 256, which is no escape.
use mathlib.Core.Path.{◌≡◌, refl, sym}
use mathlib.Core.Bool.{Bool, true, false, ◌&&◌, not}
use Prim.Native.Nat.{ℕ, ◌+◌, ◌<◌, ◌≤◌}
use mathlib.Core.List.{List}
use native.Mathlib.Omega.{arith}
use lib.Dec.{eqb}
use lib.ListN.{length, get_or-eq_default}
use borrow.Author.Tests.{eq-eqb, ne_eqb}
use Rattle.literal_grammar.specs.Bytes.{is_escape}
use Rattle.literal_bytes.specs.Text.{byte_at}
use Rattle.literal_escapes.specs.Strings.{escape_here}
use Rattle.literal_bytes.proofs.Positions.{get_d_any}
use Rattle.literal_escapes.proofs.escape_here.Goals as goal
use Rattle.literal_escapes.proofs.escape_here.Goals.{then-quote-eq92-via-then-quote-eq92, then-quote-eq92-via-else-quote-eq92+then-text-lt2, then-quote-eq92-via-else-quote-eq92+else-text-lt2+then-text-at}

last_false : (t u : Bool) → false ≡ (t && u && false)
last_false true true = refl
last_false true false = refl
last_false false u = refl

-- no byte follows
too_short : (q : ℕ) (s : List ℕ) (at : ℕ) → length s ≤ at + 1 → false ≡ escape_here q s at
unfolding escape_here is_escape
too_short q s at le = rw (escape_here, get_or-eq_default s 256 le) (last_false (not (eqb q 92)) (eqb (byte_at s at) 92))

quote_backslash : (q : ℕ) (s : List ℕ) (at : ℕ) → q ≡ 92 → false ≡ escape_here q s at
unfolding escape_here
quote_backslash q s at h = rw (escape_here, eq-eqb _ _ h)

pub returns-then-quote-eq92 : goal.returns-then-quote-eq92
returns-then-quote-eq92 c =
    let a = c.args in
    elim c.then-quote-eq92.branch [
      | then-quote-eq92-via-then-quote-eq92 w ↦ quote_backslash a.quote a.text.now a.at w.if-quote-eq92.true
      | then-quote-eq92-via-else-quote-eq92+then-text-lt2 w ↦ too_short a.quote a.text.now a.at (omega (arith, w.if-text-lt2.true))
      | then-quote-eq92-via-else-quote-eq92+else-text-lt2+then-text-at w ↦ too_short a.quote a.text.now a.at (omega (arith, w.if-text-at.true, w.if-text-lt2.false))
    ]

pub returns-else-text-at-eq92 : goal.returns-else-text-at-eq92
unfolding escape_here
returns-else-text-at-eq92 c =
    let a = c.args in
    let lt : a.at < length a.text.now = omega (arith, c.if-text-at.false, c.if-text-lt2.false) in
    simp (escape_here, ne_eqb _ _ c.if-quote-eq92.false, sym (get_d_any a.text.now a.at 0 256 lt), ne_eqb _ _ c.if-text-at-eq92.false)

pub returns-then-text-at-eq92 : goal.returns-then-text-at-eq92
unfolding escape_here
returns-then-text-at-eq92 c =
    let a = c.args in
    let lt : a.at + 1 < length a.text.now = omega (arith, c.if-text-at.false, c.if-text-lt2.false) in
    let first : a.at < length a.text.now = omega arith in
    simp (escape_here, ne_eqb _ _ c.if-quote-eq92.false, sym (get_d_any a.text.now a.at 0 256 first), sym (get_d_any a.text.now (a.at + 1) 0 256 lt), eq-eqb _ _ c.if-text-at-eq92.true) c.is_escape.ensures
