-- Document 01, "The literal": "The text is exactly one value. Faults are found left to right, at the first byte that no valid text could have after what precedes it, nesting
-- aside." The predicates of the readers (Functions.antt, InC.antt) hold with every reading of texts that keeps the promise of literal_grammar/specs/Promise.antt, which
-- mentions texts and values but no reader. There is such a reading, and any two read every text alike: value, fault or the 33rd bracket, and where. So what each reader
-- returns for each text, the choice between 6 and 7 included, follows from the grammar and the promise alone.
use Rattle.std.specs.Prelude.{◌≡◌, List, ℕ}
use Rattle.record.specs.Header.{Reading, Keeps}

-- the claim
pub record ByTheGrammar : Type 0 where
  pub some : (reading : Reading) × Keeps reading
  pub alike : (one other : Reading) → Keeps one → Keeps other → (text : List ℕ) → one text ≡ other text
