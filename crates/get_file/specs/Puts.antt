-- What putting the numbers of a list owes: each is stored where there is room, one after another, and all are counted, up to 2^64-1.
use Rattle.std.specs.Prelude.{ℕ, ◌≡◌, List, length}
use Rattle.std.proofs.lemmas.List.Edits.{sets}
use Rattle.counts.specs.Number.{capped}
use Rattle.get_file.specs.Numbers.{list_numbers}

pub record PutsListed (text room room' : List ℕ) (count : ℕ) : Type 0 where
  pub stored : room' ≡ sets room 0 (list_numbers 0 text)
  pub counted : capped count ≡ capped (length (list_numbers 0 text))
