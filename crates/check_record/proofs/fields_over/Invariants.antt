-- `check_record::fields_over` meets its contract. The loop keeps that the fields' bytes are the sum so far, which fits, and those of the fields from entry c on (`Summing`).
use Prim.Native.Nat.{◌-◌}
use Rattle.check_record.proofs.Fields.{Summing}
use Rattle.check_record.proofs.fields_over.Given as goal

abbrev pub invariant-loop : goal.invariant-loop
invariant-loop l = Summing l.table l.n l.e (l.end - l.counter) l.c l.bytes.0
