-- What `put` of this crate owes, and its parts: the line as far as there is room, or the refusal of the element.
use Rattle.refusal.specs.declared.Refusal.{Refusal}
use Rattle.counts.specs.declared.Bytes.{Bytes}
use Rattle.std.specs.Prelude.{ℕ, ◌≡◌, List, Err, Ok, Result}
use Rattle.counts.specs.Outcome.{Outcome, gives, refused, then}
use Rattle.counts.specs.Owes.{roomed, Owes}
use Rattle.refusal.specs.Answers.{bytes_answer}
use Rattle.refusal.specs.Numbers.{number_of}
use Rattle.emit.specs.Emits.{Emits}
use Rattle.type_str.specs.declared.TypeStr.{TypeStr}
use Rattle.element_text.specs.Text.{element_text}

-- the element's own refusal, then 28
abbrev pub PutsElement : TypeStr → (run room : List ℕ) → Result Bytes Refusal → (room' : List ℕ) → Type 0
PutsElement t run room r room' = Owes (then (element_text t run) (roomed 28 room)) room (bytes_answer r) room'

-- a piece of text put from the front on, as far as there is room; or its refusal, and the room as it was
abbrev pub PutsOrRefuses : Outcome (List ℕ → List ℕ) → (room : List ℕ) → Result Bytes Refusal → (room' : List ℕ) → Type 0
PutsOrRefuses (gives f) room (Ok n) room' = Emits f room 0 room' n.0
PutsOrRefuses (gives f) room (Err why) room' = ⊥
PutsOrRefuses (refused k) room (Ok n) room' = ⊥
PutsOrRefuses (refused k) room (Err why) room' = (number_of why ≡ k) × (room' ≡ room)
