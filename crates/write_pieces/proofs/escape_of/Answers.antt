-- `write_pieces::escape_of` meets its contract, byte by byte.
use borrow.Author.Tests.{ne_eqb}
use Rattle.literal_grammar.specs.Print.{escape_of}
use Rattle.write_pieces.proofs.escape_of.Goals as goal

pub returns-in-92-clause-is : goal.returns-in-92-clause-is
unfolding escape_of
returns-in-92-clause-is c = rw c.in-92.is

pub returns-in-39-clause-is : goal.returns-in-39-clause-is
unfolding escape_of
returns-in-39-clause-is c = rw c.in-39.is

pub returns-in-13-clause-is : goal.returns-in-13-clause-is
unfolding escape_of
returns-in-13-clause-is c = rw c.in-13.is

pub returns-in-10-clause-is : goal.returns-in-10-clause-is
unfolding escape_of
returns-in-10-clause-is c = rw c.in-10.is

pub returns-in_default-clause-is : goal.returns-in_default-clause-is
unfolding escape_of
returns-in_default-clause-is c = simp (escape_of, ne_eqb _ _ c.in_default.in_default-own.rest.1, ne_eqb _ _ c.in_default.in_default-own.rest.0.1, ne_eqb _ _ c.in_default.in_default-own.rest.0.0.1, ne_eqb _ _ c.in_default.in_default-own.rest.0.0.0.1)
