-- Each arm is a clause of the definition.
use Rattle.literal_bytes.proofs.ended.Goals as goal

pub returns-in-Shut : goal.returns-in-Shut
returns-in-Shut c = rw c.in-Shut.is
