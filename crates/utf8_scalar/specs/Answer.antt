-- Document 01, "The refusal numbers": "28 | output room too small", "29, 30 | bad scalar value; .." What `utf8_scalar::encode` puts in the room and returns.
use Rattle.refusal.specs.declared.Refusal.{Refusal}
use Rattle.counts.specs.declared.Bytes.{Bytes}
use Rattle.std.specs.Prelude.{ℕ, not, List, Result}
use Rattle.counts.specs.Outcome.{Outcome, unless}
use Rattle.counts.specs.Owes.{roomed, Owes}
use Rattle.utf8_scalar.specs.Scalar.{is_scalar}
use Rattle.utf8_scalar.specs.Encode.{encode}
use Rattle.refusal.specs.Answers.{bytes_answer}

-- the encoding of the value c: 29 for no scalar value, then 28 where it does not fit the room
unfoldable pub encoding : ℕ → (room : List ℕ) → Outcome (List ℕ)
encoding c room = unless (not (is_scalar c)) 29 (roomed 28 room (encode c))

-- the contract of `utf8_scalar::encode`
abbrev pub Encodes : (c : ℕ) (room : List ℕ) → Result Bytes Refusal → (room' : List ℕ) → Type 0
Encodes c room r room' = Owes (encoding c room) room (bytes_answer r) room'
