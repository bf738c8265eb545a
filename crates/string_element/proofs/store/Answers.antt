-- `string_element::store` meets its contract: each turn stores one byte more.
use mathlib.Core.Path.{refl, ap, ◌∙◌}
use mathlib.Core.List.{◌++◌}
use native.Mathlib.Omega.{arith}
use lib.ListN.{length, drop}
use Rattle.std.proofs.lemmas.List.{take_all}
use Rattle.string_value.proofs.Places.{copying_start, copying_more, copying_end}
use Rattle.string_element.proofs.store.Goals as goal

pub loop-i-init : goal.loop-i-init
loop-i-init c = copying_start _ _ _

pub loop-i-preserved : goal.loop-i-preserved
loop-i-preserved c = copying_more _ _ _ _ _ _ c.loop-i.invariant c.loop-i-test.true (omega arith) c.requires refl

pub returns : goal.returns
returns c =
    let value = c.args.value.now in
    copying_end _ _ _ _ _ c.loop-i.invariant c.loop-i-test.false ∙ ap (λ l. l ++ drop (length value) c.args.out.now) (take_all (length value) value (omega arith))
