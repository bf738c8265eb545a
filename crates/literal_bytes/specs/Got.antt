-- What a reading returns: what was read and the position after it; or refusal 6 or 7 and its position. Document 01, "The refusal numbers": 6 "literal
-- fault", 7 "a bracket that may stand there would be the 33rd open".
use Rattle.std.specs.Prelude.{ℕ}
use Rattle.literal_grammar.specs.Promise as promise
pub use Rattle.literal_grammar.specs.Promise.{got, fault, deep}
use Rattle.literal_bytes.specs.declared.Parsed.{Parsed}
use Rattle.literal_bytes.specs.declared.Parsed.TheVariants.{Value, Fault, Deep}

-- the outcome of literal_grammar/specs/Promise.antt, with positions of the text as places
abbrev pub Got : Type 0 → Type 0
Got A = promise.Got ℕ A

-- what the code returns: the outcome without the thing that was read
abbrev pub pos : {A : Type 0} → Got A → Parsed
pos (got a e) = Value e
pos (fault p) = Fault p
pos (deep p) = Deep p

-- f applied to the end position and what was read
unfoldable pub with : {A B : Type 0} → (ℕ → A → B) → Got A → Got B
with f (got a e) = got (f e a) e
with f (fault p) = fault p
with f (deep p) = deep p

-- what the code returned, together with what was read up to its end position
unfoldable pub giving : {A : Type 0} → (ℕ → A) → Parsed → Got A
giving f (Value e) = got (f e) e
giving f (Fault p) = fault p
giving f (Deep p) = deep p
