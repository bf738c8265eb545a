-- The number, or nothing.
use Rattle.get_file.proofs.Lists.{comma_yes, comma_no}
use Rattle.get_file.proofs.put_at_comma.Goals as goal

pub returns-then-b-eq44 : goal.returns-then-b-eq44
returns-then-b-eq44 c = comma_yes _ _ _ _ _ _ c.if-b-eq44.true c.put_number.ensures

pub returns : goal.returns
returns c = comma_no _ _ _ _ c.if-b-eq44.false
