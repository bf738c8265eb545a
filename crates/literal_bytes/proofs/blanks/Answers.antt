-- The run ends at the first of the two bytes that is no blank, or continues after both.
use Prim.Native.Nat.{◌+◌}
use mathlib.Core.Path.{refl, sym, ◌∙◌}
use Rattle.literal_grammar.specs.Bytes.{is_blank}
use Rattle.literal_bytes.proofs.Positions.{run_stops, run_goes_on, run_over}
use Rattle.literal_bytes.proofs.blanks.Goals as goal
use Rattle.literal_bytes.proofs.blanks.Goals.{then-text-from-via-then-text-from, then-text-from-via-else-text-from+then-not-is_blank, then-text-next-via-then-text-next, then-text-next-via-else-text-next+then-not-is_blank-2}

pub returns-then-text-from : goal.returns-then-text-from
returns-then-text-from c =
    let s = c.args.text.now in
    let from = c.args.from in
    elim c.then-text-from.branch [
      | then-text-from-via-then-text-from w ↦ run_over is_blank s from from refl w.if-text-from.true
      | then-text-from-via-else-text-from+then-not-is_blank w ↦ run_stops is_blank s from from refl w.if-text-from.false _ w.is_blank.ensures w.if-not-is_blank.true-raw
    ]

pub returns-then-text-next : goal.returns-then-text-next
returns-then-text-next c =
    let s = c.args.text.now in
    let from = c.args.from in
    let one = run_goes_on is_blank s from from refl c.if-text-from.false _ c.is_blank.ensures c.if-not-is_blank.false-raw in
    elim c.then-text-next.branch [
      | then-text-next-via-then-text-next w ↦ run_over is_blank s from (from + 1) one w.if-text-next.true
      | then-text-next-via-else-text-next+then-not-is_blank-2 w ↦ run_stops is_blank s from (from + 1) one w.if-text-next.false _ w.is_blank-else-text-next.ensures w.if-not-is_blank-2.true-raw
    ]

pub returns : goal.returns
returns c =
    let s = c.args.text.now in
    let from = c.args.from in
    let one = run_goes_on is_blank s from from refl c.if-text-from.false _ c.is_blank.ensures c.if-not-is_blank.false-raw in
    let two = run_goes_on is_blank s from (from + 1) one c.if-text-next.false _ c.is_blank-else-text-next.ensures c.if-not-is_blank-2.false-raw in
    c.past_far.ensures ∙ sym two
