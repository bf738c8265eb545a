-- None, no list, or a list.
use Prim.Native.Nat.{min}
use mathlib.Core.Path.{◌≡◌, sym, ◌∙◌}
use native.Mathlib.Omega.{arith}
use lib.ListN.{length}
use borrow.Author.Tests.{not-true, not-false}
use Rattle.get_file.proofs.Lists.{none_listed, no_list, listed}
use Rattle.get_file.proofs.numbers.Goals as goal

pub returns-then-is_dash : goal.returns-then-is_dash
returns-then-is_dash c = none_listed c.args.text.now _ (sym c.is_dash.ensures ∙ c.if-is_dash.true)

pub returns-then-not-is_list : goal.returns-then-not-is_list
returns-then-not-is_list c = no_list c.args.text.now _ (sym c.is_dash.ensures ∙ c.if-is_dash.false) (sym c.is_list.ensures ∙ not-true _ c.if-not-is_list.true-raw)

pub returns : goal.returns
returns c =
    let least : c.min.result ≡ min c.put_listed-count.result (length c.args.out.now) = grind arith in
    listed c.args.text.now _ (sym c.is_dash.ensures ∙ c.if-is_dash.false) (sym c.is_list.ensures ∙ not-false _ c.if-not-is_list.false-raw) _ _ c.put_listed-count.ensures (omega arith) (omega arith) _ least
