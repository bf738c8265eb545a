-- `place_area::part` meets its contract: what lies past the file's end is not there.
use Rattle.place_area.proofs.Area.{part_least}
use Rattle.place_area.proofs.part.Goals as goal

pub returns : goal.returns
returns c = part_least c.args.file.now c.args.run.len.0 c.args.run.first.0 _ _ c.least-start.ensures c.least.ensures
