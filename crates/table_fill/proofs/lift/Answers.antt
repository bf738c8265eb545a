-- With room the entries are moved, and then adjusted.
use Prim.Native.Nat.{◌+◌, ◌*◌}
use native.Mathlib.Omega.{arith}
use mathlib.Core.Path.{◌∙◌}
use Rattle.dtype.specs.Record.{entry_width}
use Rattle.table_fill.proofs.Lifts.{copied, lifted_by}
use Rattle.table_fill.proofs.lift.Goals as goal

pub returns : goal.returns
returns c =
    let a = c.args in
    lifted_by a.table.now a.entry a.count a.by (omega arith) _ _
    (c.copy_within.ensures.after ∙ copied a.table.now (entry_width * a.entry) (entry_width * (a.entry + a.count)) (entry_width * (a.entry + a.by)) (entry_width * a.count) (omega arith) (omega arith) (omega arith))
    c.relink.ensures
