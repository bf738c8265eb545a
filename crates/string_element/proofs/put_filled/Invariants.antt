-- `string_element::put_filled` meets its contract: the value is copied, and each turn writes one zero more.
use Rattle.std.specs.Prelude.{length, ◌≤◌, ◌≡◌}
use Rattle.string_value.specs.Runs.{zero_filled}
use Rattle.string_value.proofs.Places.{Copying}
use Rattle.string_element.proofs.put_filled.Given as goal

abbrev pub invariant-loop : goal.invariant-loop
invariant-loop l = Copying (zero_filled l.fn.size.0 l.value) l.fn.size.0 l.fn.out l.out l.counter × (length l.value ≤ l.counter) × (l.p ≡ l.counter)
