-- Each part by its function.
use Rattle.counts.proofs.Counted.{none_test}
use Rattle.std.specs.Prelude.{Option}
use mathlib.Core.Path.{refl, ap, ◌∙◌}
use mathlib.Core.Bool.{Bool, ◌||◌, cond}
use Rattle.counts.specs.Counts.{bytes_over, as_bytes, held_bytes}
use Rattle.counts.specs.declared.Bytes.{Bytes}
use Rattle.descr_totals.specs.Totals.{arrayed}
use Rattle.descr_totals.proofs.Sums.{totals_eq}
use Rattle.descr_totals.proofs.arrays.Goals as goal

pub returns : goal.returns
unfolding arrayed
returns c =
    let o = c.args.shape in
    let t = c.args.of in
    let s = c.largest-size.ensures in
    totals_eq c.add.ensures refl refl refl
    (ap (λ (b : Bool). b || t.over) (none_test bytes_over refl (λ a. refl) _ _ c.is_none.ensures ∙ ap (λ (n : Option Bytes). bytes_over n) s))
    (c.unless_empty.ensures ∙ ap (λ (n : Bytes). cond o.empty (as_bytes 0) n) (c.held.ensures ∙ ap (λ (n : Option Bytes). held_bytes n) s))
