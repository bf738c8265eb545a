-- `utf8::check` meets its contract. A text whose largest byte is ASCII is ASCII, and so well-formed. Otherwise the loop's invariant: what `first_ill`
-- finds of the text is what `scan` finds from `at` on. A turn decodes one value and steps over it.
use Rattle.std.specs.Prelude.{Err, Ok, Result, Option, Some, None}
use Prim.Native.Nat.{ℕ, ◌-◌, ◌≤◌}
use mathlib.Core.Path.{◌≡◌, refl, sym, ap, ◌∙◌}
use mathlib.Core.List.{List}
use native.Mathlib.Omega.{arith}
use lib.ListN.{length, take, drop, length-drop}
use lib.Seq.{take_all}
use Rattle.utf8.specs.Decode.{Point, decode, first_ill, unless_ill}
use Rattle.utf8.specs.Answer.{decoded, answer, ill_at, Checks}
use Rattle.utf8.specs.declared.Decoded.{Decoded}
use Rattle.utf8.proofs.Texts.{Onward, onward, scan_ill, scan_end, found_well_formed}
use Rattle.utf8.proofs.Joined.{ascii}
use Rattle.utf8.proofs.check.Goals as goal

-- the number follows the place
number : (r : Result Unit ℕ) → answer r ≡ unless_ill (ill_at r)
number (Ok tt) = refl
number (Err at) = refl

checked : (text : List ℕ) (r : Result Unit ℕ) → ill_at r ≡ first_ill text → Checks text r
checked text r e = record { answered = number r ∙ ap (λ (found : Option ℕ). unless_ill found) e; placed = e }

-- the part of the text from a place on
whole : (text : List ℕ) (at : ℕ) {r : Option Point} → r ≡ decode (take (length text - at) (drop at text)) → r ≡ decode (drop at text)
whole text at e = e ∙ ap (λ (l : List ℕ). decode l) (take_all (length text - at) (drop at text) (rw length-drop (omega arith)))

pub returns-then-largest-lt128 : goal.returns-then-largest-lt128
returns-then-largest-lt128 c =
    let text = c.args.text.now in
    checked text (Ok tt)
    (sym (found_well_formed text (ascii text (λ k h. omega (arith, c.largest.ensures k)))))

pub returns-in_default : goal.returns-in_default
returns-in_default c =
    let text = c.args.text.now in
    let at = c.loop-at.at in
    let here : decode (drop at text) ≡ None =
    sym (whole text at c.decode.ensures) ∙ ap (λ (r : Option Decoded). decoded r) c.in_default.is in
    checked text (Err at)
    (sym (c.loop-at.invariant.1 ∙ scan_ill at (drop at text) (rw length-drop (omega arith)) here))

-- a value that was decoded at a place inside the text goes on from there
ahead : (text : List ℕ) (at : ℕ) (found : Option Decoded) (one : Decoded) → decoded found ≡ decode (take (length text - at) (drop at text)) → found ≡ Some one → at ≤ length text → Onward text at one.length
ahead text at found one d is le =
    let here = sym (whole text at d) ∙ ap (λ (r : Option Decoded). decoded r) is in
    onward text at one.value _ le here

pub overflow_add-at : goal.overflow_add-at
overflow_add-at c = omega (arith, (ahead c.args.text.now c.loop-at.at _ c.in-Some.one c.decode.ensures c.in-Some.is (omega arith)).inside)

pub loop-at-smaller : goal.loop-at-smaller
loop-at-smaller c = let a = ahead c.args.text.now c.loop-at.at _ c.in-Some.one c.decode.ensures c.in-Some.is (omega arith) in omega (arith, a.inside, a.some)

pub loop-at-preserved : goal.loop-at-preserved
loop-at-preserved c = let a = ahead c.args.text.now c.loop-at.at _ c.in-Some.one c.decode.ensures c.in-Some.is (omega arith) in (a.inside, c.loop-at.invariant.1 ∙ a.on)

pub returns : goal.returns
returns c = checked _ (Ok tt) (sym (c.loop-at.invariant.1 ∙ scan_end _ _ c.loop-at-test.false))
