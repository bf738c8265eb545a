-- `check_table::record_agrees` meets its contract. The loop keeps that the record agrees exactly if its fields from entry c on do, with the bytes before them (`Linking`).
use Prim.Native.Nat.{◌-◌}
use Rattle.check_table.proofs.Fields.{Linking}
use Rattle.check_table.proofs.record_agrees.Given as goal

abbrev pub invariant-loop : goal.invariant-loop
invariant-loop l = Linking l.table l.n l.e l.stop l.outer.bytes (l.outer.number - l.counter) l.c l.bytes.0
