-- No second outcome satisfies the statement of this crate's public function.
use Rattle.refusal.specs.Answers.{answer}
use Prim.Native.Nat.{ℕ}
use mathlib.Core.Path.{◌≡◌}
use mathlib.Core.List.{List}
use Rattle.counts.specs.OneOutcome.{OneOutcome}
use Rattle.counts.specs.Outcome.{Outcome}
use Rattle.refusal.proofs.Answers.{whole_one}
use Rattle.type_str.specs.declared.TypeStr.{TypeStr}
use Rattle.value.specs.declared.Value.{Value}
use Rattle.value.specs.Values.{read_value}

pub value_one : (o : Outcome Value) → OneOutcome (λ r. answer r ≡ o)
value_one o = whole_one o

pub read_one : (run : List ℕ) (t : TypeStr) → OneOutcome (λ r. answer r ≡ read_value t run)
read_one run t = value_one (read_value t run)
