-- Document 01, "A form for each place": "For an answer that is an enum, a definition gives this paper's number and values for each case of the enum." An answer that
-- can be one of document 01's refusals has two cases: `Ok` with its value, or `Err` with a reason, whose number is document 01's. A value that is no count is given as it is; an
-- answer whose value has a meaning of its own has the same two lines in its own crate.
use Rattle.counts.specs.declared.Points.{Points}
use Rattle.counts.specs.declared.Items.{Items}
use Rattle.refusal.specs.declared.Refusal.{Refusal}
use Rattle.counts.specs.declared.Bytes.{Bytes}
use Rattle.std.specs.Prelude.{ℕ, Err, Ok, Result}
use Rattle.counts.specs.Outcome.{Outcome, gives, refused}
use Rattle.refusal.specs.Numbers.{number_of}

-- an answer that can be refused: its value, or the number of the reason
abbrev pub answer : {A : Type 0} → Result A Refusal → Outcome A
answer (Ok a) = gives a
answer (Err why) = refused (number_of why)

-- a count of items, or an item's number
abbrev pub items_answer : Result Items Refusal → Outcome ℕ
items_answer (Ok n) = gives n.0
items_answer (Err why) = refused (number_of why)

-- a count of bytes
abbrev pub bytes_answer : Result Bytes Refusal → Outcome ℕ
bytes_answer (Ok n) = gives n.0
bytes_answer (Err why) = refused (number_of why)

-- a count of code points
abbrev pub points_answer : Result Points Refusal → Outcome ℕ
points_answer (Ok n) = gives n.0
points_answer (Err why) = refused (number_of why)
