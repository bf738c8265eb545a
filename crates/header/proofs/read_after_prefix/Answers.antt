-- The text is not all there, or it is read.
use Rattle.counts.proofs.HandedOn.{handed_on}
use Prim.Native.Nat.{◌+◌, ◌<◌}
use native.Mathlib.Omega.{arith}
use mathlib.Core.Path.{subst}
use lib.ListN.{length}
use Rattle.header_prefix.specs.Answer.{version_is, prefix_is}
use Rattle.header.specs.Reads.{lent}
use Rattle.header.proofs.File.{start_small, after_missing, after_read, after_refused}
use Rattle.header.proofs.read_after_prefix.Goals as goal

pub overflow_add-end : goal.overflow_add-end
overflow_add-end c =
    let v = c.args.p.version in
    omega (arith, c.text_start-start.ensures, start_small (version_is v), c.requires)

pub returns-then-file-end : goal.returns-then-file-end
returns-then-file-end c =
    let a = c.args in
    after_missing a.longer a.file.now (prefix_is a.p) (lent a.table.now a.names.now a.shape.now) c.missing.result c.missing.ensures (subst (λ n. length a.file.now < n + a.p.length) c.text_start-start.ensures c.if-file-end.true)

pub returns : goal.returns
returns c =
    let a = c.args in
    after_read a.longer a.file.now a.p (lent a.table.now a.names.now a.shape.now) _ c.text_start-start.result c.text_start-start.ensures c.if-file-end.false c.read_text.result c.read_text.ensures _ c.in_ok-info.was

pub returns-in_err-info : goal.returns-in_err-info
returns-in_err-info c = let a = c.args in rw (handed_on _ c.in_err-info.field-0.0 c.from_residual.ensures)
    (after_refused a.longer a.file.now a.p (lent a.table.now a.names.now a.shape.now) _ c.text_start-start.result c.text_start-start.ensures c.if-file-end.false c.read_text.result c.read_text.ensures _ c.in_err-info.was)
