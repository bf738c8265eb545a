-- Each part is the sum of the two, with its cap.
use Rattle.counts.proofs.Counted.{none_test}
use Rattle.counts.specs.declared.Bytes.{Bytes}
use Rattle.std.specs.Prelude.{Option}
use Prim.Native.Nat.{◌+◌}
use mathlib.Core.Path.{refl, ap, ◌∙◌}
use mathlib.Core.Bool.{Bool, ◌||◌}
use Rattle.counts.specs.Counts.{bytes_over, held_bytes}
use Rattle.counts.proofs.Counted.{bytes_test}
use Rattle.descr_totals.specs.Totals.{together}
use Rattle.descr_totals.proofs.Sums.{totals_eq, held_bytes_lem}
use Rattle.descr_totals.proofs.plus.Goals as goal

pub returns : goal.returns
unfolding together
returns c =
    let a = c.args.a in
    let b = c.args.b in
    let s = c.plus-size.ensures in
    totals_eq c.add.ensures c.add-2.ensures refl refl
    (ap (λ (t : Bool). (a.over || b.over) || t) (none_test bytes_over refl (λ a. refl) _ _ c.is_none.ensures ∙ (ap (λ (n : Option Bytes). bytes_over n) s ∙ bytes_test (a.size.0 + b.size.0))))
    (c.held.ensures ∙ (ap (λ (n : Option Bytes). held_bytes n) s ∙ held_bytes_lem (a.size.0 + b.size.0)))
