-- What printing a type puts in lent room: its text, or 27 ("caller's record or type that no reading gives") or 28 (the room is too small), of type_str's Text.antt.
use Rattle.refusal.specs.declared.Refusal.{Refusal}
use Rattle.counts.specs.declared.Bytes.{Bytes}
use Rattle.std.specs.Prelude.{List, ℕ, Result}
use Rattle.counts.specs.Owes.{Owes}
use Rattle.refusal.specs.Answers.{bytes_answer}
use Rattle.type_str.specs.Text.{type_printed}
use Rattle.type_str.specs.declared.TypeStr.{TypeStr}

abbrev pub Prints : TypeStr → (room : List ℕ) → Result Bytes Refusal → (room' : List ℕ) → Type 0
Prints t room r room' = Owes (type_printed t room) room (bytes_answer r) room'
