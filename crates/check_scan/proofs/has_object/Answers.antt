-- `check_scan::has_object` meets its contract: `any` over the numbers from 0 on is whether one of these entries is an object.
use Rattle.std.proofs.Common.{◌∙◌, arith, rules, tests}
use Rattle.std.proofs.lemmas.Iterator.{YieldsList-from_range}
use Rattle.std.proofs.lemmas.Iterator.Search.{any_from_yields_List}
use Rattle.dtype.specs.Seen.{object_at}
use Rattle.check_scan.proofs.Over.{any_some}
use Rattle.check_scan.proofs.has_object.Goals as goal

pub returns : goal.returns
returns c =
    let object = object_at c.args.table.now in
    any_from_yields_List object _ _ _ c.any.ensures.ran (YieldsList-from_range 0 c.args.n c.args.n (cc) (omega arith)) (λ x b q k. search (rules, tests))
    ∙ any_some object c.args.n 0
