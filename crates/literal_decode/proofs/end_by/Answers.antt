-- Each arm is a clause of the definition.
use mathlib.Core.Path.{sym, ap}
use Rattle.literal_escapes.specs.Strings.{end_by}
use Rattle.literal_decode.proofs.end_by.Goals as goal

pub returns-in-Close : goal.returns-in-Close
returns-in-Close c = sym (ap end_by c.in-Close.is)

pub returns-in-Byte : goal.returns-in-Byte
returns-in-Byte c = sym (ap end_by c.in-Byte.is)

pub returns-in-Bad : goal.returns-in-Bad
returns-in-Bad c = sym (ap end_by c.in-Bad.is)
