-- The type of a plain entry: its numbers are those of the type that `type_of` gives, and of no other.
use Prim.Native.Nat.{ℕ, ◌<◌}
use mathlib.Core.Path.{◌≡◌, refl, ap, ◌∙◌}
use mathlib.Core.Bool.{Bool, true, false, not, cond}
use mathlib.Core.List.{List, [], ◌∷◌}
use native.Mathlib.Omega.{arith}
use borrow.Author.Tests.{eqb-true, ne_eqb}
use lib.Dec.{eqb}
use Rattle.counts.specs.Outcome.{Outcome, gives, refused, then, unless}
use Rattle.type_letters.specs.Letters.{orders, order_byte, order_of, letters, letter_byte, letter_of, first_of}
use Rattle.type_units.specs.Units.{units}
use Rattle.type_str.specs.Text.{is_type}
use Rattle.type_letters.specs.declared.Endianness.{Endianness}
use Rattle.type_letters.specs.declared.TypeChar.{TypeChar}
use Rattle.type_units.specs.declared.TimeUnits.{TimeUnits}
use Rattle.type_units.specs.declared.TimeUnits.TheVariants.{Absent, Year, Month, Week, Day, Hour, Minute, Second, Millisecond, Microsecond, Nanosecond, Picosecond, Femtosecond, Attosecond}
use Rattle.type_str.specs.declared.TypeStr.{TypeStr}
use Rattle.type_letters.proofs.OrderTables.{order_spelled}
use Rattle.type_letters.proofs.LetterTables.{letter_spelled}
use Rattle.dtype.specs.TypeNumbers.{units_number}
use Rattle.dtype.specs.declared.Entry.{Entry}
use Rattle.table_entry.specs.EntryType.{units_for, in_record, typed, type_of}

-- no byte is over 255, so no order and no letter is
pub order_past : (n : ℕ) → 255 < n → refused 15 ≡ order_of n
unfolding order_of
order_past n h =
    simp (ne_eqb n 60 (λ e. omega arith), ne_eqb n 62 (λ e. omega arith), ne_eqb n 124 (λ e. omega arith))

pub letter_past : (n : ℕ) → 255 < n → refused 15 ≡ letter_of n
unfolding letter_of
letter_past n h =
    simp (
      ne_eqb n 98 (λ e. omega arith),
      ne_eqb n 105 (λ e. omega arith),
      ne_eqb n 117 (λ e. omega arith),
      ne_eqb n 102 (λ e. omega arith),
      ne_eqb n 99 (λ e. omega arith),
      ne_eqb n 109 (λ e. omega arith),
      ne_eqb n 77 (λ e. omega arith),
      ne_eqb n 83 (λ e. omega arith),
      ne_eqb n 85 (λ e. omega arith),
      ne_eqb n 79 (λ e. omega arith),
      ne_eqb n 86 (λ e. omega arith),
    )

units_numbered : (u : TimeUnits) → units_for (units_number u) ≡ gives u
unfolding units_for
units_numbered Absent = refl
units_numbered Year = refl
units_numbered Month = refl
units_numbered Week = refl
units_numbered Day = refl
units_numbered Hour = refl
units_numbered Minute = refl
units_numbered Second = refl
units_numbered Millisecond = refl
units_numbered Microsecond = refl
units_numbered Nanosecond = refl
units_numbered Picosecond = refl
units_numbered Femtosecond = refl
units_numbered Attosecond = refl

-- the first match in a table passes the test
first_or : {A : Type 0} (test : A → Bool) (b a : A) (rest : Outcome A) → (rest ≡ gives a → test a ≡ true) → (x : Bool) → test b ≡ x
    → cond x (gives b) rest ≡ gives a → test a ≡ true
first_or test b a rest more true e k = let z : b ≡ a = cc in rw z at e
first_or test b a rest more false e k = more k

first_back : {A : Type 0} (test : A → Bool) (l : List A) (a : A) → first_of test l ≡ gives a → test a ≡ true
first_back test [] a h = let z : ◌≡◌ {A = ℕ} 0 1 = cc in absurd (omega arith)
first_back test (b ∷ l) a h = first_or test b a (first_of test l) (first_back test l a) (test b) refl h

order_back : (n : ℕ) (o : Endianness) → order_of n ≡ gives o → n ≡ order_byte o
unfolding order_of
order_back n o h = eqb-true n (order_byte o) (first_back (λ x. eqb n (order_byte x)) orders o h)

letter_back : (n : ℕ) (l : TypeChar) → letter_of n ≡ gives l → n ≡ letter_byte l
unfolding letter_of
letter_back n l h = eqb-true n (letter_byte l) (first_back (λ x. eqb n (letter_byte x)) letters l h)

units_back : (n : ℕ) (u : TimeUnits) → units_for n ≡ gives u → n ≡ units_number u
unfolding units_for
units_back n u h = eqb-true n (units_number u) (first_back (λ x. eqb n (units_number x)) units u h)

-- the numbers of e are those of t
pub record Written (e : Entry) (t : TypeStr) : Type 0 where
  pub order : e.order ≡ order_byte t.order
  pub letter : e.letter ≡ letter_byte t.letter
  pub number : e.number ≡ t.size
  pub units : e.units ≡ units_number t.units

pub type_of_written : (e : Entry) (t : TypeStr) → Written e t → type_of e ≡ in_record (typed t)
unfolding type_of
type_of_written e t w =
    rw (w.order, order_spelled t.order, w.letter, letter_spelled t.letter, w.units, units_numbered t.units, w.number)

abbrev made : Entry → Endianness → TypeChar → TimeUnits → TypeStr
made e o l u = record { order = o; letter = l; size = e.number; units = u }

pub given_made : (t m : TypeStr) (b : Bool) → in_record (unless (not b) 27 (gives m)) ≡ gives t → m ≡ t
given_made t m true h = cc
given_made t m false h = let z : ◌≡◌ {A = ℕ} 0 1 = cc in absurd (omega arith)

pub type_of_back : (e : Entry) (t : TypeStr) → type_of e ≡ gives t → Written e t
unfolding type_of
type_of_back e t h = go (order_of e.order) (letter_of e.letter) (units_for e.units) refl refl refl h
  where
    go : (a : Outcome Endianness) (b : Outcome TypeChar) (d : Outcome TimeUnits) → order_of e.order ≡ a → letter_of e.letter ≡ b → units_for e.units ≡ d
        → in_record (then a (λ o. then b (λ l. then d (λ u. typed (made e o l u))))) ≡ gives t → Written e t
    go (gives o) (gives l) (gives u) p q r k =
        let z = given_made t (made e o l u) (is_type (made e o l u)) k in
        record {
          order = order_back e.order o p ∙ ap (λ (x : TypeStr). order_byte x.order) z;
          letter = letter_back e.letter l q ∙ ap (λ (x : TypeStr). letter_byte x.letter) z;
          number = ap (λ (x : TypeStr). x.size) z;
          units = units_back e.units u r ∙ ap (λ (x : TypeStr). units_number x.units) z;
        }
    go (gives o) (gives l) (refused n) p q r k = let z : ◌≡◌ {A = ℕ} 0 1 = cc in absurd (omega arith)
    go (gives o) (refused n) d p q r k = let z : ◌≡◌ {A = ℕ} 0 1 = cc in absurd (omega arith)
    go (refused n) b d p q r k = let z : ◌≡◌ {A = ℕ} 0 1 = cc in absurd (omega arith)

-- ---- the results of `type_of`
module _ (e : Entry) where
  pub no_order : refused 15 ≡ order_of e.order → refused 27 ≡ type_of e
  unfolding type_of
  no_order p = rw (← p)

  pub no_letter : (o : Endianness) → gives o ≡ order_of e.order → refused 15 ≡ letter_of e.letter → refused 27 ≡ type_of e
  unfolding type_of
  no_letter o p q = rw (← p, ← q)

  module _ (o : Endianness) (l : TypeChar) (p : gives o ≡ order_of e.order) (q : gives l ≡ letter_of e.letter) where
    pub no_units : refused 15 ≡ units_for e.units → refused 27 ≡ type_of e
    unfolding type_of
    no_units r = rw (← p, ← q, ← r)

    pub whole_type : (u : TimeUnits) → gives u ≡ units_for e.units → (b : Bool) → b ≡ is_type (made e o l u)
        → in_record (unless (not b) 27 (gives (made e o l u))) ≡ type_of e
    unfolding type_of
    whole_type u r b s = rw (← p, ← q, ← r, ← s)
