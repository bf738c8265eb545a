-- `string_element::all_scalars` meets its contract: its definition says by recursion what `all` says of each.
use Prim.Native.Nat.{ℕ}
use mathlib.Core.Path.{◌≡◌, refl, ap, ◌∙◌}
use mathlib.Core.Bool.{Bool, ◌&&◌}
use mathlib.Core.List.{List, [], ◌∷◌}
use borrow.Author.Tests.{tests}
use Rattle.std.specs.List.{list_all}
use Rattle.std.proofs.Common.{rules}
use Rattle.std.proofs.lemmas.Iterator.{YieldsList-from_slice}
use Rattle.std.proofs.lemmas.Iterator.Search.{all_from_yields_List}
use Rattle.utf8_scalar.specs.Scalar.{is_scalar, all_scalars}
use Rattle.string_element.proofs.all_scalars.Goals as goal

by_each : (l : List ℕ) → list_all is_scalar l ≡ all_scalars l
by_each [] = refl
by_each (c ∷ l) = ap (λ (b : Bool). is_scalar c && b) (by_each l)

pub returns : goal.returns
returns c =
    all_from_yields_List is_scalar _ _ c.all.result c.all.ensures.ran (YieldsList-from_slice c.args.value.now cc) (λ x b q k. search (rules, tests)) ∙ by_each _
