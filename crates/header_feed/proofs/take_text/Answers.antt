-- `header_feed::take_text` meets its contract: 36, or the text's bytes are copied, and where they are all there the text is read.
use native.Mathlib.Omega.{arith}
use mathlib.Core.Path.{sym}
use lib.Seq.{length-take-le}
use Rattle.header_prefix.specs.Answer.{prefix_is}
use Rattle.header.specs.Reads.{lent as rooms}
use Rattle.header_feed.proofs.Calls.{text_starts, hand_buffer, hand_fits, hand_sum, hand_length, hand_more, hand_whole}
use Rattle.header_feed.proofs.take_text.Goals as goal
use Rattle.header_feed.proofs.take_text.Goals.{Start}

pub returns-then-text-length : goal.returns-then-text-length
returns-then-text-length c = λ was taken h e.
    let o = (goal.at.returns-then-text-length c).Start in
    hand_buffer was o.args.text.now taken o.args.head o.args.got (rooms o.args.table.now o.args.names.now o.args.shape.now) h (prefix_is o.args.p) e o.args.part.now o.args.used _ c.after.ensures (omega (arith, c.if-text-length.true))

pub overflow_sub-stored : goal.overflow_sub-stored
overflow_sub-stored c =
    let o = (goal.at.overflow_sub-stored c).Start in
    omega (arith, c.text_start-start.ensures, text_starts o.requires.0.0 o.args.text.now o.requires.0.1 o.args.head o.args.got (rooms o.args.table.now o.args.names.now o.args.shape.now) o.requires.0.2 (prefix_is o.args.p) o.requires.0.3 o.args.part.now o.args.used)

pub copy-requires : goal.copy-requires
copy-requires c =
    let o = (goal.at.copy-requires c).Start in
    hand_fits o.requires.0.0 o.args.text.now o.requires.0.1 o.args.head o.args.got (rooms o.args.table.now o.args.names.now o.args.shape.now) o.requires.0.2 (prefix_is o.args.p) o.requires.0.3 o.args.part.now o.args.used (omega (arith, c.if-text-length.false)) _ c.text_start-start.ensures _ _ c.saturating_sub.ensures c.min-n.ensures

pub overflow_add-got : goal.overflow_add-got
overflow_add-got c =
    let o = (goal.at.overflow_add-got c).Start in
    record { fits = omega (arith, o.well_formed.1.1.1.1.1.0.1, hand_sum o.requires.0.0 o.args.text.now o.requires.0.1 o.args.head o.args.got (rooms o.args.table.now o.args.names.now o.args.shape.now) o.requires.0.2 (prefix_is o.args.p) o.requires.0.3 o.args.part.now o.args.used c.if-text-length.false _ c.text_start-start.ensures _ _ c.saturating_sub.ensures c.min-n.ensures) }

pub returns-then-stored-n : goal.returns-then-stored-n
returns-then-stored-n c = λ was taken h e.
    let o = (goal.at.returns-then-stored-n c).Start in
    hand_more was o.args.text.now taken o.args.head o.args.got (rooms o.args.table.now o.args.names.now o.args.shape.now) h (prefix_is o.args.p) e o.args.part.now o.args.used c.if-text-length.false _ c.text_start-start.ensures _ _ c.saturating_sub.ensures c.min-n.ensures _ c.copy.ensures (omega (arith, c.if-stored-n.true)) _ c.after-then-stored-n.ensures

pub slice_bounds-read_whole-end-2 : goal.slice_bounds-read_whole-end-2
slice_bounds-read_whole-end-2 c =
    let same = hand_length c.requires.0.0 c.args.text.now c.requires.0.1 c.args.head c.args.got (rooms c.args.table.now c.args.names.now c.args.shape.now) c.requires.0.2 (prefix_is c.args.p) c.requires.0.3 c.args.part.now c.args.used c.if-text-length.false _ c.text_start-start.ensures _ _ c.saturating_sub.ensures c.min-n.ensures _ c.copy.ensures in
    sym (length-take-le c.args.p.length c.copy.new.out (omega (arith, same, c.if-text-length.false)))

pub overflow_add-got-2 : goal.overflow_add-got-2
overflow_add-got-2 c =
    record { fits = omega (arith, c.well_formed.1.1.1.1.1.0.1, hand_sum c.requires.0.0 c.args.text.now c.requires.0.1 c.args.head c.args.got (rooms c.args.table.now c.args.names.now c.args.shape.now) c.requires.0.2 (prefix_is c.args.p) c.requires.0.3 c.args.part.now c.args.used c.if-text-length.false _ c.text_start-start.ensures _ _ c.saturating_sub.ensures c.min-n.ensures) }

pub returns : goal.returns
returns c = λ was taken h e.
    hand_whole was c.args.text.now taken c.args.head c.args.got (rooms c.args.table.now c.args.names.now c.args.shape.now) h (prefix_is c.args.p) e c.args.part.now c.args.used c.if-text-length.false _ c.text_start-start.ensures _ _ c.saturating_sub.ensures c.min-n.ensures _ c.copy.ensures (omega (arith, c.if-stored-n.false)) _ _ c.read_whole-said.ensures _ c.after-2.ensures
