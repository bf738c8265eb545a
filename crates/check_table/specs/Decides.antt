-- The tests of one entry, each a part of 27, in a form that code can test: `Decides r P` ties a boolean to a fact. Kind 0 is a plain entry.
use Rattle.std.specs.Prelude.{ℕ, ◌≡◌, Bool, true, false, ◌&&◌, List, eqb}
use Rattle.counts.specs.Outcome.{Outcome, gives, refused}
use Rattle.dtype.specs.declared.Entry.{Entry}
use Rattle.dtype.specs.Agrees.{entry_at, PlainAgrees, Agrees}
use Rattle.table_entry.specs.EntryType.{type_of}

-- whether an outcome is a refusal
abbrev pub refuses : {A : Type 0} → Outcome A → Bool
refuses (gives a) = false
refuses (refused n) = true

-- the test is true exactly when the fact holds
pub record Decides (r : Bool) (P : Type 0) : Type 0 where
  pub only : r ≡ true → P
  pub all : P → r ≡ true

-- a plain entry that agrees with its type, which some type string has
pub record TypedAgrees (e : Entry) : Type 0 where
  pub agrees : PlainAgrees e
  pub typed : refuses (type_of e) ≡ false

-- entry e is plain, and no type string has its type
abbrev pub untyped_at : List ℕ → ℕ → Bool
untyped_at t e = eqb (entry_at t e).kind 0 && refuses (type_of (entry_at t e))

-- entry e of n agrees with those after it, and if plain has a type
pub record SoundEntry (t : List ℕ) (n e : ℕ) : Type 0 where
  pub agrees : Agrees t n e
  pub typed : untyped_at t e ≡ false
