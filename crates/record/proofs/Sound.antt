-- The records that some reading gives, apart from the limits 13, 20 to 22, 7 and 4: those that 27, "caller's record or type that no reading gives (13, 20 to 22,
-- 7, 4 aside), or outermost an array", lets pass. Every plain type is a type string's, every length and dimension is at most 2^64-1, every name is UTF-8, and the
-- dtype is not outermost an array. Both directions are proved in proofs/RoundTrips.antt.
use Prim.Native.Nat.{ℕ, ◌^◌, ◌<◌}
use mathlib.Core.Path.{◌≡◌}
use mathlib.Core.Bool.{true}
use mathlib.Core.List.{List, [], ◌∷◌, ◌++◌}
use Rattle.utf8.specs.Utf8.{WellFormed}
use Rattle.type_str.specs.Text.{is_type}
use Rattle.dtype.specs.declared.Entry.{Entry}
use Rattle.dtype.specs.Dtype.{Dtype, Fields, plain, array, record_of, end_of_fields, field_then}
use Rattle.dtype.specs.EntryOf.{entry_numbers}
use Rattle.dtype.specs.Record.{Record}
use Rattle.record.specs.Layout.{levels_of}
use Rattle.record.specs.Sound.{Small}

-- every type is a type string's, every length at most 2^64-1, every name UTF-8
abbrev mutual
  pub Good : Dtype → Type 0
  Good (plain t) = is_type t ≡ true
  Good (array n d) = (n < 2 ^ 64) × Good d
  Good (record_of fs) = AllGood fs

  pub AllGood : Fields → Type 0
  AllGood end_of_fields = Unit {0}
  AllGood (field_then name d fs) = WellFormed name × Good d × AllGood fs

-- a record that a reading can give
pub record Sound (r : Record) : Type 0 where
  pub good : Good r.dtype
  pub no_array : levels_of r.dtype ≡ []
  pub small : Small r.shape

-- what follows numbers below 2^64 ..
small_after : (ns x : List ℕ) → Small (ns ++ x) → Small x
small_after [] x h = h
small_after (n ∷ ns) x h = small_after ns x h.1

-- .. and what the check of a record needs of an entry in front
pub small_entry : (e : Entry) (x : List ℕ) → Small (entry_numbers e x) → (e.number < 2 ^ 64) × Small x
small_entry e x h = (h.1.1.1.1.0, small_after (entry_numbers e []) x h)
