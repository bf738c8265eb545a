-- Each arm has the place of its answer.
use mathlib.Core.Path.{sym, ap}
use Rattle.literal.specs.Answer.{end_of}
use Rattle.header.proofs.fill.end_place.Goals as goal

pub returns-in-Value : goal.returns-in-Value
returns-in-Value c = sym (ap end_of c.in-Value.is)

pub returns-in-Fault : goal.returns-in-Fault
returns-in-Fault c = sym (ap end_of c.in-Fault.is)

pub returns-in-Deep : goal.returns-in-Deep
returns-in-Deep c = sym (ap end_of c.in-Deep.is)
