-- Each arm makes the result that it was given.
use mathlib.Core.Path.{sym}
use Rattle.literal_bytes.proofs.same.Goals as goal

pub returns-in-Value : goal.returns-in-Value
returns-in-Value c = sym c.in-Value.is

pub returns-in-Fault : goal.returns-in-Fault
returns-in-Fault c = sym c.in-Fault.is

pub returns-in-Deep : goal.returns-in-Deep
returns-in-Deep c = sym c.in-Deep.is
