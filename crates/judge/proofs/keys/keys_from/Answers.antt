-- The loop over the pairs keeps that what was seen of the three keys, with what the pairs from the gap on have, is what all pairs have, and whether the keys so far are strings
-- (`Seen`); and that the pairs end as those from the gap on do.
use borrow.Enum.Refused.{opened}
use lib.Dec.{lit<}
use mathlib.Core.Path.{sym, ◌∙◌}
use Rattle.literal.specs.Brackets.{pair_by}
use Rattle.literal.specs.Literal as read
use Rattle.literal.proofs.Ends.{value_ahead, pair_ahead}
use Rattle.literal.proofs.Steps.{turn_start, turn_more, turn_less, pair_stop, pair_more}
use Rattle.literal_bytes.proofs.Ends.{stops}
use Rattle.shape_text.proofs.Goes.{goes_start, goes_more}
use Rattle.judge.proofs.Seek.{PairIs, pair_descr, pair_shape, pair_else, pair_as, Seen, seen_start, seen_more, walked_end, walked_stop}
use Rattle.judge.proofs.keys.keys_from.Goals as goal
use Rattle.judge.proofs.keys.keys_from.Goals.{Joined-name, in-Descr, in-Shape, in-Order}

pub loop-g-init : goal.loop-g-init
loop-g-init c =
    let a = c.args in
    let s = a.text.now in
    let rd = pair_by (read.value a.room s) s in
    (turn_start rd s 125 a.from c.gap_at-g.result (lit< tt) c.gap_at-g.ensures, goes_start rd s 125 a.from (Seen a.room s _ _) c.gap_at-g.result c.gap_at-g.ensures (seen_start a.room s))

pub returns-in_default : goal.returns-in_default
returns-in_default c =
    let a = c.args in
    let l = c.loop-g in
    walked_end a.room a.text.now a.from l.strings _ l.g c.ended.result c.walk_end.result l.invariant.0 l.invariant.1 (opened c.in_default.in_default-own.keys2) c.ended.ensures c.walk_end.ensures

pub returns-in_default-k : goal.returns-in_default-k
returns-in_default-k c =
    let a = c.args in
    let s = a.text.now in
    let l = c.loop-g in
    let k = c.key_at-key in
    let hr = pair_stop (read.value a.room s) s _ k.result.begins k.ensures.begins (stops k.result.begins (opened c.in_default-k.in_default-k-own.keys2)) in
    walked_stop a.room s a.from l.strings _ l.g _ k.result.begins c.walk_end-in_default-k.result l.invariant.0 c.in-Item.is hr (opened c.in_default-k.in_default-k-own.keys2) c.walk_end-in_default-k.ensures

-- where the arms meet: what is found after the pair
paired : (c : goal.Joined-name)
    → PairIs c.args.room c.args.text.now c.in-Value.at c.key_at-key.result.name (record { descr = c.loop-g.descr; order = c.loop-g.order; shape = c.loop-g.shape }) c.match-name.v
    (record { descr = c.match-name.descr; order = c.order_at-order.result; shape = c.match-name.shape })
paired c =
    let a = c.args in
    let s = a.text.now in
    let at = c.in-Value.at in
    let n = c.key_at-key.result.name in
    let l = c.loop-g in
    let o = c.order_at-order in
    elim c.match-name.branch [
      | in-Descr w ↦ pair_as a.room s at n l.descr l.order o.result l.shape o.ensures w.descr-is w.shape-is w.v-is (pair_descr a.room s at n l.descr l.order o.result l.shape o.ensures w.in-Descr.is w.judge-one.result w.descr_found-descr.result w.judge-one.ensures w.descr_found-descr.ensures)
      | in-Shape w ↦ pair_as a.room s at n l.descr l.order o.result l.shape o.ensures w.descr-is w.shape-is w.v-is (pair_shape a.room s at n l.descr l.order o.result l.shape o.ensures w.in-Shape.is w.judge-one-in-Shape.result w.shape_found-shape.result w.judge-one-in-Shape.ensures w.shape_found-shape.ensures)
      | in-Order w ↦ pair_as a.room s at n l.descr l.order o.result l.shape o.ensures w.descr-is w.shape-is w.v-is (pair_else a.room s at n l.descr l.order o.result l.shape o.ensures (opened w.in-Order.in-Order-own.keys3) w.value-v.result w.value-v.ensures)
    ]

pub returns-in_default-v : goal.returns-in_default-v
returns-in_default-v c =
    let a = c.args in
    let s = a.text.now in
    let l = c.loop-g in
    let v = c.match-name.v in
    let hr = (paired (goal.at.returns-in_default-v c).Joined-name).ended ∙ pair_more (read.value a.room s) s _ _ (sym c.in-Value.is ∙ c.key_at-key.ensures.begins) in
    walked_stop a.room s a.from l.strings _ l.g _ v c.walk_end-in_default-v.result l.invariant.0 c.in-Item.is hr (opened c.in_default-v.in_default-v-own.keys2) c.walk_end-in_default-v.ensures

pub loop-g-smaller : goal.loop-g-smaller
loop-g-smaller c =
    let a = c.args in
    let s = a.text.now in
    let rd = read.value a.room s in
    let v = c.match-name.v in
    let hr = (paired (goal.at.loop-g-smaller c).Joined-name).ended ∙ pair_more rd s _ _ (sym c.in-Value.is ∙ c.key_at-key.ensures.begins) in
    turn_less (pair_by rd s) s 125 a.from (pair_ahead rd s (value_ahead a.room s)) (lit< tt) c.loop-g.g c.then_at-g.result _ _ v c.in-Item.is c.in-Value-v.is hr c.then_at-g.ensures

pub loop-g-preserved : goal.loop-g-preserved
loop-g-preserved c =
    let a = c.args in
    let s = a.text.now in
    let rd = read.value a.room s in
    let l = c.loop-g in
    let m = c.match-name in
    let k = c.key_at-key in
    let one = paired (goal.at.loop-g-preserved c).Joined-name in
    let ha = sym c.in-Value.is ∙ k.ensures.begins in
    let hr = one.ended ∙ pair_more rd s _ _ ha in
    let hg = c.in-Item.is in
    let hv = c.in-Value-v.is in (
      turn_more (pair_by rd s) s 125 a.from (pair_ahead rd s (value_ahead a.room s)) (lit< tt) l.g c.then_at-g.result _ _ m.v hg hv hr c.then_at-g.ensures l.invariant.0,
      goes_more (pair_by rd s) s 125 a.from (Seen a.room s l.strings _) (Seen a.room s _ _) l.g c.then_at-g.result _ _ m.v l.invariant.1 hg hv hr c.then_at-g.ensures
          (λ u ps us hu h. seen_more a.room s l.strings _ _ _ m.v k.result.name _ _ _ u ps us hu ha k.ensures.named one c.all_strings-strings.ensures h),
    )
