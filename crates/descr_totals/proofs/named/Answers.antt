-- The length, capped.
use Prim.Native.Nat.{◌+◌}
use mathlib.Core.Path.{◌≡◌, refl, ◌∙◌}
use native.Mathlib.Omega.{arith}
use Rattle.descr_totals.specs.Totals.{at_most}
use Rattle.descr_totals.proofs.Sums.{totals_eq}
use Rattle.descr_totals.proofs.named.Goals as goal

pub returns : goal.returns
returns c = let e : at_most 65537 (c.args.len + 0) ≡ at_most 65537 c.args.len = omega arith in totals_eq refl (c.add.ensures ∙ e) refl refl refl refl
