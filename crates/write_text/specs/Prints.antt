-- What printing the dict's text of a caller's record answers, and what the room then holds. Which record can be printed, or the first of 27, 13, 20, 21, 22 and 7 that
-- applies, is `printable` of write_depth. Document 01, "The refusal numbers": "Each returns its number only; every lent buffer stays unchanged."
use Rattle.refusal.specs.Answers.{answer}
use Rattle.refusal.specs.declared.Refusal.{Refusal}
use Rattle.std.specs.Prelude.{ℕ, ◌≡◌, List, Ok, Result}
use Rattle.counts.specs.Outcome.{Outcome, gives, refused}
use Rattle.emit.specs.Emits.{Emits}
use Rattle.literal_grammar.specs.Print.{print}
use Rattle.dtype.specs.Record.{Record}
use Rattle.record.specs.Layout.{header_layout}

-- the text of the record that o gives, from `at` on and as far as there is room, and the place after it; or o's number, and the room as it was
pub record PrintsText (o : Outcome Record) (old : List ℕ) (at : ℕ) (r : Result ℕ Refusal) (out : List ℕ) : Type 0 where
  pub printed : (x : Record) → o ≡ gives x → (p : ℕ) × (r ≡ Ok p) × Emits (print (header_layout x)) old at out p
  pub unprinted : (n : ℕ) → o ≡ refused n → (answer r ≡ refused n) × (out ≡ old)
