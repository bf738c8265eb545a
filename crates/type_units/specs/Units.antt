-- Document 01, "The record": "then optional units in brackets, one of `Y M W D h m s ms us ns ps fs as` (N)." One table: the name of each unit, and all units in the
-- document's order. Any other text is a syntax fault, 15.
use Rattle.std.specs.Prelude.{ℕ, List, [], ◌∷◌, ◌++◌, Bool}
use Rattle.counts.specs.Outcome.{Outcome}
use Rattle.counts.specs.Lists.{same}
use Rattle.type_letters.specs.Letters.{first_of}
use Rattle.type_units.specs.declared.TimeUnits.{TimeUnits}
use Rattle.type_units.specs.declared.TimeUnits.TheVariants.{Absent, Year, Month, Week, Day, Hour, Minute, Second, Millisecond, Microsecond, Nanosecond, Picosecond, Femtosecond, Attosecond}

-- the name of each unit: `Y M W D h m s ms us ns ps fs as`, and no name for none
abbrev pub unit_name : TimeUnits → List ℕ
unit_name Absent = []
unit_name Year = 89 ∷ []
unit_name Month = 77 ∷ []
unit_name Week = 87 ∷ []
unit_name Day = 68 ∷ []
unit_name Hour = 104 ∷ []
unit_name Minute = 109 ∷ []
unit_name Second = 115 ∷ []
unit_name Millisecond = 109 ∷ 115 ∷ []
unit_name Microsecond = 117 ∷ 115 ∷ []
unit_name Nanosecond = 110 ∷ 115 ∷ []
unit_name Picosecond = 112 ∷ 115 ∷ []
unit_name Femtosecond = 102 ∷ 115 ∷ []
unit_name Attosecond = 97 ∷ 115 ∷ []

-- no units, and then all in the document's order
abbrev pub units : List TimeUnits
units =
    Absent ∷ Year ∷ Month ∷ Week ∷ Day ∷ Hour ∷ Minute ∷ Second ∷ Millisecond ∷ Microsecond ∷ Nanosecond ∷ Picosecond ∷ Femtosecond ∷ Attosecond ∷ []

-- a name "in brackets" (91 `[`, 93 `]`), then the text r; r alone where there is no name
abbrev pub bracketed : List ℕ → List ℕ → List ℕ
bracketed [] r = r
bracketed (b ∷ bs) r = 91 ∷ (b ∷ bs) ++ (93 ∷ r)

-- units as printed, then r
abbrev pub unit_text : TimeUnits → List ℕ → List ℕ
unit_text u r = bracketed (unit_name u) r

-- the units of a text: none for the empty text; 15 for any other text that no unit prints
unfoldable pub units_of : List ℕ → Outcome TimeUnits
units_of text = first_of (λ u. same text (unit_text u [])) units

-- "optional": whether there are no units, and so no name
abbrev pub is_absent : TimeUnits → Bool
is_absent u = same (unit_name u) []
