-- By whether there are bytes.
use mathlib.Core.Path.{sym, ◌∙◌}
use borrow.Author.Tests.{true-eqb, false-eqb}
use Rattle.element_text.proofs.Lines.{raw_none, raw_some}
use Rattle.element_text.proofs.put_raw_line.Goals as goal

pub returns-then-is_empty : goal.returns-then-is_empty
returns-then-is_empty c = raw_none _ _ _ c.args.value.now (true-eqb _ 0 (sym c.if-is_empty.true ∙ c.is_empty.ensures)) c.put_bytes.ensures

pub returns : goal.returns
returns c = raw_some _ _ _ c.args.value.now _ _ _ _ (false-eqb _ 0 (sym c.if-is_empty.false ∙ c.is_empty.ensures)) c.put_bytes-inside.ensures c.put_each_hex-after_last.ensures c.put.ensures
