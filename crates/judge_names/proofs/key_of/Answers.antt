-- The bytes are compared with each of the three.
use mathlib.Core.Path.{refl}
use Rattle.record.specs.Dict.{key_order, key_shape, key_descr}
use Rattle.judge_names.specs.declared.Name.{Name}
use Rattle.judge_names.proofs.Names.{name_is, name_none}
use Rattle.judge_names.proofs.Same.{same_by}
use Rattle.judge_names.proofs.key_of.Goals as goal

pub returns-then-eq : goal.returns-then-eq
returns-then-eq c = name_is Name.Descr key_descr c.args.name.now c.eq.result refl (same_by _ _ key_descr _ c.eq.ensures c.as_slice.ensures) c.if-eq.true

pub returns-then-eq-2 : goal.returns-then-eq-2
returns-then-eq-2 c = name_is Name.Order key_order c.args.name.now c.eq-2.result refl (same_by _ _ key_order _ c.eq-2.ensures c.as_slice-2.ensures) c.if-eq-2.true

pub returns-then-eq-3 : goal.returns-then-eq-3
returns-then-eq-3 c = name_is Name.Shape key_shape c.args.name.now c.eq-3.result refl (same_by _ _ key_shape _ c.eq-3.ensures c.as_slice-3.ensures) c.if-eq-3.true

pub returns : goal.returns
returns c =
    let u = c.args.name.now in
    name_none u _ _ _ (same_by _ _ key_descr _ c.eq.ensures c.as_slice.ensures) c.if-eq.false
    (same_by _ _ key_order _ c.eq-2.ensures c.as_slice-2.ensures) c.if-eq-2.false (same_by _ _ key_shape _ c.eq-3.ensures c.as_slice-3.ensures) c.if-eq-3.false
