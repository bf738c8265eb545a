-- What `table_entry::type_of` returns: the type, or document 01's number. No two results have the same outcome (proofs/Outcomes.antt).
use Rattle.std.specs.Prelude.{None, Some, Option}
use Rattle.counts.specs.Outcome.{Outcome, gives, refused}
use Rattle.type_str.specs.declared.TypeStr.{TypeStr}

-- the type, or 27
abbrev pub type_answer : Option TypeStr → Outcome TypeStr
type_answer (Some t) = gives t
type_answer None = refused 27
