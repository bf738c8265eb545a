-- Each arm is a clause of the definition.
use borrow.Author.Tests.{ne_eqb}
use Rattle.literal_bytes.proofs.bracket_kind.Goals as goal

pub returns-in-91 : goal.returns-in-91
returns-in-91 c = rw c.in-91.is

pub returns-in-40 : goal.returns-in-40
returns-in-40 c = rw c.in-40.is

pub returns-in-123 : goal.returns-in-123
returns-in-123 c = rw c.in-123.is

pub returns-in_default : goal.returns-in_default
returns-in_default c = rw (ne_eqb _ _ c.in_default.in_default-own.rest.0.0.1, ne_eqb _ _ c.in_default.in_default-own.rest.0.1, ne_eqb _ _ c.in_default.in_default-own.rest.1)
