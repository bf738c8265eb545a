-- `header_feed::take_part` meets its contract: the bytes before the text, then what they say, then the text.
use native.Mathlib.Omega.{arith}
use Rattle.header.specs.Reads.{lent as rooms}
use Rattle.header_feed.proofs.Calls.{part_within, part_short, part_three, part_refused, part_due, part_text}
use Rattle.header_feed.proofs.take_part.Goals as goal
use Rattle.header_feed.proofs.take_part.Goals.{Start}

pub returns-then-got-lt-FIRST : goal.returns-then-got-lt-FIRST
returns-then-got-lt-FIRST c =
    let o = (goal.at.returns-then-got-lt-FIRST c).Start in
    part_short o.args.head o.args.taken o.args.part.now o.args.text.now (rooms o.args.table.now o.args.names.now o.args.shape.now) o.well_formed.0.1.0.1 _ c.held-had.ensures _ c.fill_head-h.ensures (omega (arith, c.if-got-lt-FIRST.true)) _ c.after.ensures

pub take_text-requires : goal.take_text-requires
take_text-requires c =
    let o = (goal.at.take_text-requires c).Start in
    let w = part_within o.args.head o.args.taken o.args.part.now o.args.text.now (rooms o.args.table.now o.args.names.now o.args.shape.now) o.well_formed.0.1.0.1 _ c.held-had.ensures _ c.fill_head-h.ensures in
    (part_due o.args.head o.args.taken o.args.part.now o.args.text.now (rooms o.args.table.now o.args.names.now o.args.shape.now) o.well_formed.0.1.0.1 _ c.held-had.ensures _ c.fill_head-h.ensures _ c.prefix_in.ensures _ c.in-Ok.is, w)

pub returns-in-Ok : goal.returns-in-Ok
returns-in-Ok c =
    let o = (goal.at.returns-in-Ok c).Start in
    part_text o.args.head o.args.taken o.args.part.now o.args.text.now (rooms o.args.table.now o.args.names.now o.args.shape.now) o.well_formed.0.1.0.1 _ c.held-had.ensures _ c.fill_head-h.ensures _ c.prefix_in.ensures _ c.in-Ok.is _ _ _ c.take_text.ensures

pub returns-then-is_incomplete : goal.returns-then-is_incomplete
returns-then-is_incomplete c =
    let o = (goal.at.returns-then-is_incomplete c).Start in
    part_three o.args.head o.args.taken o.args.part.now o.args.text.now (rooms o.args.table.now o.args.names.now o.args.shape.now) o.well_formed.0.1.0.1 _ c.held-had.ensures _ c.fill_head-h.ensures _ c.prefix_in.ensures _ _ c.in-Err.is c.is_incomplete.ensures c.if-is_incomplete.true _ c.after-then-is_incomplete.ensures

pub returns-else-is_incomplete : goal.returns-else-is_incomplete
returns-else-is_incomplete c =
    let o = (goal.at.returns-else-is_incomplete c).Start in
    part_refused o.args.head o.args.taken o.args.part.now o.args.text.now (rooms o.args.table.now o.args.names.now o.args.shape.now) o.well_formed.0.1.0.1 _ c.held-had.ensures _ c.fill_head-h.ensures _ c.prefix_in.ensures (omega (arith, c.if-got-lt-FIRST.false)) _ _ c.in-Err.is c.is_incomplete.ensures c.if-is_incomplete.false _ c.after-else-is_incomplete.ensures
