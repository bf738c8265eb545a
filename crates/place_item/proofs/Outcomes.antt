-- No second outcome meets the contract of `item_number`.
use Prim.Native.Nat.{ℕ}
use mathlib.Core.Path.{◌≡◌}
use mathlib.Core.List.{List}
use Rattle.counts.specs.OneOutcome.{OneOutcome}
use Rattle.dtype.specs.declared.Order.{Order}
use Rattle.refusal.specs.Answers.{items_answer}
use Rattle.refusal.proofs.Answers.{items_one}
use Rattle.place_item.specs.Item.{item_of}

pub item_number_one : (o : Order) (s x : List ℕ) → OneOutcome (λ r. items_answer r ≡ item_of o s x)
item_number_one o s x = items_one (item_of o s x)
