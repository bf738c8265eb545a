-- What listing answers and what the room then holds: of a record that was checked, and of a caller's record. And a line of a word and numbers.
use Rattle.counts.specs.declared.Bytes.{Bytes}
use Rattle.std.specs.Prelude.{Err, Ok, Result}
use Prim.Native.Nat.{ℕ, ◌^◌, ◌-◌, ◌<◌, ◌≤◌}
use mathlib.Core.Path.{◌≡◌, refl, sym, ap}
use mathlib.Core.List.{List, [], ◌∷◌, ◌++◌}
use lib.ListN.{length}
use Rattle.counts.specs.Outcome.{Outcome, gives, refused, then, each}
use Rattle.counts.specs.Owes.{roomed}
use Rattle.counts.proofs.Owes.{owes_refused, owes_same}
use Rattle.counts.proofs.Apart.{each_none}
use Rattle.refusal.specs.declared.Refusal.{Refusal}
use Rattle.refusal.specs.Numbers.{number_of}
use Rattle.decimal.specs.Decimal.{printed}
use Rattle.emit.specs.Emits.{Emits}
use Rattle.emit.proofs.Pieces.{emits_same}
use Rattle.emit.proofs.Texts.{written_short, written_whole}
use Rattle.dtype.specs.declared.Order.{Order}
use Rattle.dtype.specs.Record.{Record}
use Rattle.record.specs.Prefix.{Version}
use Rattle.check_record.specs.Answer.{summary}
use Rattle.check_record.specs.Checked.{checked_record}
use Rattle.write_pieces.specs.Pieces.{numbers_between}
use Rattle.list_text.specs.Listing.{spaced_numbers, listing}
use Rattle.list_text.proofs.Pieces.{three}
use Rattle.list_record.specs.Answer.{ListsOne, Lists}

-- ---- a record that was checked
module _ (v : Version) (start : ℕ) (r : Record) (scratch mid : List ℕ) (n : ℕ) (room : List ℕ) (fits : n < 2 ^ 64) (short : length room < 2 ^ 64 - 1) (measured : Emits (listing v start r) scratch 0 mid n) where
  pub one_28 : length room < n → ListsOne v start r room (Err Refusal.OutputRoom) room
  one_28 lt = written_short (listing v start r) scratch mid n room fits short measured lt

  pub one_written : (out : List ℕ) (q : ℕ) → n ≤ length room → Emits (listing v start r) room 0 out q → ListsOne v start r room (Ok (record { 0 = n })) out
  one_written out q le h = written_whole (listing v start r) scratch mid n room fits short measured out q le h

-- ---- a line of a word and numbers
numbers_text : (s x : List ℕ) → numbers_between (32 ∷ []) [] s x ≡ spaced_numbers s x
numbers_text [] x = refl
numbers_text (n ∷ s) x = ap (λ (y : List ℕ). 32 ∷ printed n y) (numbers_text s x)

pub row_there : (word s old : List ℕ) (at : ℕ) (m₁ : List ℕ) (p₁ : ℕ) (m₂ : List ℕ) (p₂ : ℕ) (out : List ℕ) (q : ℕ)
    → Emits (λ x. word ++ x) old at m₁ p₁ → Emits (numbers_between (32 ∷ []) [] s) m₁ p₁ m₂ p₂ → Emits (λ x. 10 ∷ x) m₂ p₂ out q
    → Emits (λ x. word ++ spaced_numbers s (10 ∷ x)) old at out q
row_there word s old at m₁ p₁ m₂ p₂ out q a b c =
    three (λ x. word ++ x) (spaced_numbers s) (λ x. 10 ∷ x) old at m₁ p₁ m₂ p₂ out q a
    (emits_same (numbers_between (32 ∷ []) [] s) (spaced_numbers s) m₁ p₁ m₂ p₂ (numbers_text s) b) c

-- ---- a caller's record
pub refused_by_check : (t ns s : List ℕ) (o : Order) (n : ℕ) → refused n ≡ each summary (checked_record t ns s o) → checked_record t ns s o ≡ refused n
refused_by_check t ns s o n e = each_none summary (checked_record t ns s o) n (sym e)

module _ (v : Version) (start : ℕ) (t ns s : List ℕ) (o : Order) (room : List ℕ) where
  pub lists_one : (r : Record) (x : Result Bytes Refusal) (room' : List ℕ) → checked_record t ns s o ≡ gives r → ListsOne v start r room x room' → Lists v start t ns s o room x room'
  lists_one r x room' e h = owes_same _ _ room _ _ (sym (ap (λ (y : Outcome Record). then y (λ z. roomed 28 room (listing v start z []))) e)) h

  pub lists_refused : (f : Refusal) → checked_record t ns s o ≡ refused (number_of f) → Lists v start t ns s o room (Err f) room
  lists_refused f e = owes_same _ _ room _ _ (sym (ap (λ (y : Outcome Record). then y (λ z. roomed 28 room (listing v start z []))) e)) (owes_refused (number_of f) room)
