-- Each arm is a clause of the definition; the last one knows that b is none of the three.
use borrow.Author.Tests.{ne_eqb}
use Rattle.literal_grammar.specs.Bytes.{unescape}
use Rattle.literal_escapes.proofs.unescape.Goals as goal

pub returns-in-110 : goal.returns-in-110
unfolding unescape
returns-in-110 c = rw c.in-110.is

pub returns-in-114 : goal.returns-in-114
unfolding unescape
returns-in-114 c = rw c.in-114.is

pub returns-in-116 : goal.returns-in-116
unfolding unescape
returns-in-116 c = rw c.in-116.is

pub returns-in_default : goal.returns-in_default
unfolding unescape
returns-in_default c = simp (ne_eqb _ _ c.in_default.in_default-own.rest.1, ne_eqb _ _ c.in_default.in_default-own.rest.0.1, ne_eqb _ _ c.in_default.in_default-own.rest.0.0.1)
