-- The six bytes of magic, the two of the version and the length field, as the code tests them, and the order of 1 to 4.
use Rattle.std.specs.Prelude.{None, Some, Option}
use Prim.Native.Nat.{ℕ, ◌-◌, ◌<◌, ◌≤◌}
use native.Mathlib.Omega.{arith}
use mathlib.Core.Path.{◌≡◌, refl, ap, ◌∙◌}
use mathlib.Core.List.{List}
use mathlib.Core.Bool.{true, false}
use lib.ListN.{length, get_or, take, drop}
use borrow.Author.Tests.{lt-ltb, le-ltb}
use Rattle.counts.specs.Outcome.{gives, refused, then}
use Rattle.counts.specs.Lists.{same}
use Rattle.counts.specs.Number.{number}
use Rattle.counts.proofs.Fits.{number_is_back, number_over_back}
use Rattle.type_letters.specs.declared.Endianness.TheVariants.{Little}
use Rattle.number_bytes.specs.Numbers.{little, in_order}
use Rattle.record.specs.Prefix.{Version, version_of, length_width, text_start, one_zero, two_zero, three_zero, magic, most_text, length_read, prefix}

-- ---- 1
pub short_is_1 : (f : List ℕ) → length f < 8 → prefix f ≡ refused 1
unfolding prefix
short_is_1 f h = rw (lt-ltb (length f) 8 h) refl

pub other_is_1 : (f : List ℕ) → 8 ≤ length f → same (take 6 f) magic ≡ false → prefix f ≡ refused 1
unfolding prefix
other_is_1 f le h = rw (le-ltb (length f) 8 le, h) refl

-- ---- 2
pub then_version : (f : List ℕ) → 8 ≤ length f → same (take 6 f) magic ≡ true → prefix f ≡ then (version_of (get_or f 6 0) (get_or f 7 0)) (λ v. length_read v f)
unfolding prefix
then_version f le h = rw (le-ltb (length f) 8 le, h) refl

-- ---- 3 and 4
module _ (v : Version) (f : List ℕ) where
  pub short_is_3 : length f < text_start v → length_read v f ≡ refused 3
  short_is_3 h = rw (lt-ltb (length f) (text_start v) h) refl

  -- the number of the length field
  abbrev pub field_length : ℕ
  field_length = little (take (length_width v) (drop 8 f))

  pub long_is_4 : text_start v ≤ length f → most_text < field_length → length_read v f ≡ refused 4
  long_is_4 le h = rw (le-ltb (length f) (text_start v) le, lt-ltb most_text field_length h) refl

  pub length_given : text_start v ≤ length f → field_length ≤ most_text → length_read v f ≡ gives (record { version = v; text_length = field_length })
  length_given le h = rw (le-ltb (length f) (text_start v) le, le-ltb most_text field_length h) refl

-- ---- the length field
pub width_few : (v : Version) → length_width v ≤ 4
width_few one_zero = omega arith
width_few two_zero = omega arith
width_few three_zero = omega arith

width_of : (v : Version) → text_start v - 8 ≡ length_width v
width_of one_zero = refl
width_of two_zero = refl
width_of three_zero = refl

pub field_number : (v : Version) (f : List ℕ) (start : ℕ) (r : Option ℕ) → start ≡ text_start v → r ≡ number (in_order Little (take (start - 8) (drop 8 f))) → r ≡ number (field_length v f)
unfolding in_order
field_number v f start r hs h = h ∙ ap (λ w. number (little (take w (drop 8 f)))) (ap (λ x. x - 8) hs ∙ width_of v)

pub over_is_4 : (v : Version) (f : List ℕ) → text_start v ≤ length f → number (field_length v f) ≡ None → length_read v f ≡ refused 4
over_is_4 v f le h = let o = number_over_back (field_length v f) h in long_is_4 v f le (omega (arith, o))

pub is_long_4 : (v : Version) (f : List ℕ) (n : ℕ) → text_start v ≤ length f → number (field_length v f) ≡ Some n → most_text < n → length_read v f ≡ refused 4
is_long_4 v f n le h lt = let o = number_is_back (field_length v f) n h in long_is_4 v f le (omega (arith, o.0))

pub is_length : (v : Version) (f : List ℕ) (n : ℕ) → text_start v ≤ length f → number (field_length v f) ≡ Some n → n ≤ most_text → length_read v f ≡ gives (record { version = v; text_length = n })
is_length v f n le h lt =
    let o = number_is_back (field_length v f) n h in
    length_given v f le (omega (arith, o.0)) ∙ ap (λ m. gives (record { version = v; text_length = m })) o.0
