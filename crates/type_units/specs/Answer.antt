-- What `type_units::from_text` and `table_entry::type_of` read as units: the units, or document 01's number. No two results have the same outcome
-- (proofs/Outcomes.antt), so an equation on the outcome fixes the result.
use Rattle.std.specs.Prelude.{None, Some, Option}
use Rattle.counts.specs.Outcome.{Outcome, gives, refused}
use Rattle.type_units.specs.declared.TimeUnits.{TimeUnits}

-- units, or 15
abbrev pub units_answer : Option TimeUnits → Outcome TimeUnits
units_answer (Some u) = gives u
units_answer None = refused 15
