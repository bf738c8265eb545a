-- Each arm is a clause of the definition.
use borrow.Author.Tests.{ne_eqb}
use Rattle.literal_bytes.proofs.word_kind.Goals as goal

pub returns-in-84 : goal.returns-in-84
returns-in-84 c = rw c.in-84.is

pub returns-in-70 : goal.returns-in-70
returns-in-70 c = rw c.in-70.is

pub returns-in-78 : goal.returns-in-78
returns-in-78 c = rw c.in-78.is

pub returns-in_default : goal.returns-in_default
returns-in_default c = rw (ne_eqb _ _ c.in_default.in_default-own.rest.0.0.1, ne_eqb _ _ c.in_default.in_default-own.rest.0.1, ne_eqb _ _ c.in_default.in_default-own.rest.1)
