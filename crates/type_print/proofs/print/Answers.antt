-- `type_print::print` meets its contract: the text is measured on a scratch byte, and then written.
use mathlib.Core.Path.{sym, ◌∙◌}
use native.Mathlib.Omega.{arith}
use borrow.Author.Tests.{not-true, not-false}
use Rattle.type_print.proofs.Texts.{prints_none, prints_short, prints_whole}
use Rattle.type_print.proofs.print.Goals as goal

pub returns-then-not-is_type : goal.returns-then-not-is_type
returns-then-not-is_type c = prints_none _ _ (sym c.is_type.ensures ∙ not-true _ c.if-not-is_type.true-raw)

pub returns-then-out-n : goal.returns-then-out-n
returns-then-out-n c = prints_short _ _ _ _ _ (omega arith) (omega arith) (sym c.is_type.ensures ∙ not-false _ c.if-not-is_type.false-raw) c.put-n.ensures c.if-out-n.true

pub returns : goal.returns
returns c =
    prints_whole _ _ _ _ _ (omega arith) (omega arith) (sym c.is_type.ensures ∙ not-false _ c.if-not-is_type.false-raw) c.put-n.ensures _ _ c.if-out-n.false c.put.ensures
