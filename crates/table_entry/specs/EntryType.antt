-- Document 01, "The refusal numbers": 27, "caller's record or type that no reading gives". The type described by the numbers of a plain entry, where some type string
-- has that type.
use Rattle.std.specs.Prelude.{ℕ, not, eqb}
use Rattle.counts.specs.Outcome.{Outcome, gives, refused, then, unless}
use Rattle.type_letters.specs.Letters.{order_of, letter_of, first_of}
use Rattle.type_units.specs.Units.{units}
use Rattle.type_str.specs.Text.{is_type}
use Rattle.type_units.specs.declared.TimeUnits.{TimeUnits}
use Rattle.type_str.specs.declared.TypeStr.{TypeStr}
use Rattle.dtype.specs.TypeNumbers.{units_number}
use Rattle.dtype.specs.declared.Entry.{Entry}

-- the units with this number, or a refusal; `order_of` and `letter_of` do the same for a byte
unfoldable pub units_for : ℕ → Outcome TimeUnits
units_for n = first_of (λ u. eqb n (units_number u)) units

-- in a caller's record, every fault of a type is 27
abbrev pub in_record : {A : Type 0} → Outcome A → Outcome A
in_record (gives a) = gives a
in_record (refused n) = refused 27

-- the type, or 27 where no type string has it
abbrev pub typed : TypeStr → Outcome TypeStr
typed t = unless (not (is_type t)) 27 (gives t)

-- the type of a plain entry, from its numbers for order, letter, size and units
unfoldable pub type_of : Entry → Outcome TypeStr
type_of e =
    in_record (then (order_of e.order) (λ o. then (letter_of e.letter) (λ l. then (units_for e.units) (λ u.
    typed (record { order = o; letter = l; size = e.number; units = u })))))
