-- `list_file::report_whole` meets its contract: `report` wrote the text, since the room is enough for every text.
use native.Mathlib.Omega.{arith}
use Rattle.list_file.proofs.Enough.{report_written, never_refused}
use Rattle.list_file.proofs.report_whole.Goals as goal

pub returns-in_default : goal.returns-in_default
returns-in_default c = absurd (never_refused _ _ _ _ (omega arith) c.report.ensures _ c.in_default.is)

pub returns : goal.returns
returns c = report_written _ _ _ _ (omega arith) c.report.ensures _ c.in-Ok.is
