-- `list_record::put_entries` meets its contract: each turn puts one line more.
use Prim.Native.Nat.{◌+◌, min}
use mathlib.Core.Path.{◌≡◌}
use native.Mathlib.Omega.{arith}
use lib.ListN.{length}
use Rattle.list_text.proofs.Lines.{going_more}
use Rattle.list_record.proofs.put_entries.Goals as goal

pub loop-e-preserved : goal.loop-e-preserved
loop-e-preserved c =
    let end : c.min-end.result ≡ min (c.loop-e.start + c.entry_at-entry.result.name) (length c.args.names.now) = grind arith in
    going_more _ _ _ _ _ _ _ _ _ _ _ _ _ c.loop-e.invariant c.loop-e-test.true c.entry_at-entry.ensures end c.put_entry-p.ensures
