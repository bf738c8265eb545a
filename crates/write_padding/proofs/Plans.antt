-- The version, the spaces and the lengths that a text is written with: nothing wraps, and each is what record defines.
use Prim.Native.Nat.{ℕ, ◌+◌, ◌≤◌, ◌<◌}
use native.Mathlib.Omega.{arith}
use mathlib.Core.Path.{◌≡◌, refl, sym, ap, ◌∙◌}
use mathlib.Core.Bool.{Bool, true, false}
use borrow.Author.Tests.{lt-ltb, le-ltb, ltb-true, ltb-false}
use lib.Dec.{ltb}
use Rattle.counts.specs.Outcome.{gives, refused, unless}
use Rattle.record.specs.Prefix.{Version, one_zero, two_zero, three_zero, length_width, text_start, most_text}
use Rattle.record.specs.Padding.{padding_unit, spaces_after, padded_length, most_short, version_for}
use Rattle.record.proofs.Padded.{short_is_one_zero, long_is_two_zero, as_three_zero}
use Rattle.header_prefix.specs.declared.Version.{Version as Chosen}
use Rattle.header_prefix.specs.declared.Version.TheVariants.{OneZero, TwoZero, ThreeZero}
use Rattle.header_prefix.specs.Answer.{version_is}
use Rattle.write_padding.specs.declared.PaddingPlan.{PaddingPlan}
use Rattle.write_padding.specs.Plan.{chosen, plan_with, planned}

pub spaces_few : (n : ℕ) → spaces_after n < padding_unit
unfolding spaces_after
spaces_few n = omega arith

pub chosen_back : (v : Version) → version_is (chosen v) ≡ v
chosen_back one_zero = refl
chosen_back two_zero = refl
chosen_back three_zero = refl

pub version_three : (n : ℕ) (ascii : Bool) → ascii ≡ false → ThreeZero ≡ chosen (version_for ascii n)
version_three n ascii e = rw e (ap chosen (sym (as_three_zero n)))

pub version_one : (n k : ℕ) (ascii : Bool) → ascii ≡ true → k ≡ spaces_after (10 + n) → n + (k + 1) ≤ most_short → OneZero ≡ chosen (version_for ascii n)
version_one n k ascii e z l = rw e (ap chosen (sym (short_is_one_zero n (omega (arith, z, l)))))

pub version_two : (n k : ℕ) (ascii : Bool) → ascii ≡ true → k ≡ spaces_after (10 + n) → most_short < n + (k + 1) → TwoZero ≡ chosen (version_for ascii n)
version_two n k ascii e z l = rw e (ap chosen (sym (long_is_two_zero n (omega (arith, z, l)))))

-- ---- 4
pub planned_4 : (ascii : Bool) (n : ℕ) → most_text < padded_length (version_for ascii n) n → refused 4 ≡ planned ascii n
unfolding planned
planned_4 ascii n l = rw (lt-ltb most_text (padded_length (version_for ascii n) n) l)

pub planned_4_bare : (ascii : Bool) (n : ℕ) → most_text < n → refused 4 ≡ planned ascii n
planned_4_bare ascii n l = planned_4 ascii n (omega arith)

plan_eq : (v v' : Chosen) (k k' t t' w w' : ℕ) → v ≡ v' → k ≡ k' → t ≡ t' → w ≡ w'
    → ◌≡◌ {A = PaddingPlan} (record { version = v; spaces = k; text = t; whole = w }) (record { version = v'; spaces = k'; text = t'; whole = w' })
plan_eq v v' k k' t t' w w' a b c d = cc

-- ---- what is chosen, from the version on
module _ (ascii : Bool) (n : ℕ) (v : Chosen) (w k : ℕ) (a : v ≡ chosen (version_for ascii n)) (b : w ≡ length_width (version_is v)) (c : k ≡ spaces_after (8 + w + n)) where
  width_is : w ≡ length_width (version_for ascii n)
  width_is = b ∙ ap (λ (u : Chosen). length_width (version_is u)) a ∙ ap length_width (chosen_back (version_for ascii n))

  spaces_are : k ≡ spaces_after (text_start (version_for ascii n) + n)
  spaces_are = c ∙ ap (λ (m : ℕ). spaces_after (8 + m + n)) width_is

  pub planned_long : most_text < n + (k + 1) → refused 4 ≡ planned ascii n
  planned_long l = planned_4 ascii n (omega (arith, spaces_are))

  pub planned_is : n + (k + 1) ≤ most_text → gives (record { version = v; spaces = k; text = n + (k + 1); whole = 8 + w + (n + (k + 1)) }) ≡ planned ascii n
  unfolding planned
  planned_is l =
      rw (le-ltb most_text (padded_length (version_for ascii n) n) (omega (arith, spaces_are)))
      (ap gives (plan_eq v (chosen (version_for ascii n)) k (spaces_after (text_start (version_for ascii n) + n)) (n + (k + 1)) (padded_length (version_for ascii n) n)
      (8 + w + (n + (k + 1))) (text_start (version_for ascii n) + padded_length (version_for ascii n) n) a spaces_are (omega (arith, spaces_are)) (omega (arith, spaces_are, width_is))))

-- ---- what follows from an answer
pub planned_too_long : (ascii : Bool) (n k : ℕ) → refused k ≡ planned ascii n → (4 ≡ k) × (most_text < padded_length (version_for ascii n) n)
unfolding planned
planned_too_long ascii n k e = go (ltb most_text (padded_length (version_for ascii n) n)) refl e
  where
    go : (b : Bool) → ltb most_text (padded_length (version_for ascii n) n) ≡ b → refused k ≡ unless b 4 (gives (plan_with (version_for ascii n) n))
        → (4 ≡ k) × (most_text < padded_length (version_for ascii n) n)
    go true t e = (cc, ltb-true most_text (padded_length (version_for ascii n) n) t)
    go false t e = let z : ◌≡◌ {A = ℕ} 0 1 = cc in absurd (omega arith)

pub planned_fits : (ascii : Bool) (n : ℕ) (p : PaddingPlan) → gives p ≡ planned ascii n → (p ≡ plan_with (version_for ascii n) n) × (padded_length (version_for ascii n) n ≤ most_text)
unfolding planned
planned_fits ascii n p e = go (ltb most_text (padded_length (version_for ascii n) n)) refl e
  where
    go : (b : Bool) → ltb most_text (padded_length (version_for ascii n) n) ≡ b → gives p ≡ unless b 4 (gives (plan_with (version_for ascii n) n))
        → (p ≡ plan_with (version_for ascii n) n) × (padded_length (version_for ascii n) n ≤ most_text)
    go true t e = let z : ◌≡◌ {A = ℕ} 0 1 = cc in absurd (omega arith)
    go false t e = (cc, ltb-false most_text (padded_length (version_for ascii n) n) t)
