-- What each answer of this crate means: document 01's number, or what comes before the text. "NPY versions (1,0), (2,0), (3,0)". By proofs/Outcomes.antt no
-- two answers mean the same.
use Rattle.refusal.specs.declared.Refusal.{Refusal}
use Rattle.std.specs.Prelude.{Err, None, Ok, Some, Result, Option}
use Rattle.counts.specs.Outcome.{Outcome, gives, refused}
use Rattle.refusal.specs.Numbers.{number_of}
use Rattle.record.specs.Prefix as before
use Rattle.header_prefix.specs.declared.Version.{Version}
use Rattle.header_prefix.specs.declared.Prefix.{Prefix}

abbrev pub version_is : Version → before.Version
version_is Version.OneZero = before.one_zero
version_is Version.TwoZero = before.two_zero
version_is Version.ThreeZero = before.three_zero

abbrev pub version_answer : Option Version → Outcome before.Version
version_answer (Some v) = gives (version_is v)
version_answer None = refused 2

abbrev pub prefix_is : Prefix → before.Prefix
prefix_is p = record { version = version_is p.version; text_length = p.length }

abbrev pub prefix_answer : Result Prefix Refusal → Outcome before.Prefix
prefix_answer (Ok p) = gives (prefix_is p)
prefix_answer (Err why) = refused (number_of why)
