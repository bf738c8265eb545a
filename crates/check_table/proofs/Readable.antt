-- A dtype is readable exactly if it has neither of the two faults: no plain type that no type string has, no name that is not UTF-8.
use Prim.Native.Nat.{ℕ}
use native.Mathlib.Omega.{arith}
use mathlib.Core.Path.{◌≡◌, refl, ap}
use mathlib.Core.Bool.{Bool, false, ◌||◌, not}
use mathlib.Core.List.{List}
use borrow.Author.Tests.{not-false}
use Rattle.counts.specs.Outcome.{Outcome, gives, refused}
use Rattle.utf8.specs.Utf8.{WellFormed}
use Rattle.utf8.specs.Decode.{utf8}
use Rattle.utf8.proofs.Outcomes.{accepted_exactly}
use Rattle.type_str.specs.Text.{is_type}
use Rattle.dtype.specs.Dtype.{Dtype, Fields, plain, array, record_of, end_of_fields, field_then}
use Rattle.dtype.specs.Entries.{some_entry_in, plain_only}
use Rattle.dtype.specs.Record.{some_name_in}
use Rattle.dtype.proofs.Seen.{or_left, or_right}
use Rattle.check_table.specs.Decides.{refuses}
use Rattle.check_table.specs.Reading.{untyped, ill_named, Readable, AllReadable}

or_both : (a b : Bool) → a ≡ false → b ≡ false → (a || b) ≡ false
or_both a b p q = rw (p, q)

-- the two faults among fields
abbrev untyped_in : Fields → Bool
untyped_in fs = some_entry_in (plain_only (λ t. not (is_type t))) fs

abbrev ill_named_in : Fields → Bool
ill_named_in fs = some_name_in (λ name. refuses (utf8 name)) fs

-- ---- a readable dtype has neither
mutual
  pub readable_typed : (d : Dtype) → Readable d → untyped d ≡ false
  readable_typed (plain t) h = ap not h
  readable_typed (array n d) h = readable_typed d h
  readable_typed (record_of fs) h = all_typed fs h

  all_typed : (fs : Fields) → AllReadable fs → untyped_in fs ≡ false
  all_typed end_of_fields h = refl
  all_typed (field_then name d fs) h = or_both (untyped d) (untyped_in fs) (readable_typed d h.1) (all_typed fs h.2)

name_well : (name : List ℕ) → WellFormed name → refuses (utf8 name) ≡ false
name_well name w = ap refuses ((accepted_exactly name).1 w)

mutual
  pub readable_named : (d : Dtype) → Readable d → ill_named d ≡ false
  readable_named (plain t) h = refl
  readable_named (array n d) h = readable_named d h
  readable_named (record_of fs) h = all_named fs h

  all_named : (fs : Fields) → AllReadable fs → ill_named_in fs ≡ false
  all_named end_of_fields h = refl
  all_named (field_then name d fs) h =
      or_both (refuses (utf8 name)) (ill_named d || ill_named_in fs) (name_well name h.0) (or_both (ill_named d) (ill_named_in fs) (readable_named d h.1) (all_named fs h.2))

-- ---- a dtype with neither is readable
well_name : (name : List ℕ) → refuses (utf8 name) ≡ false → WellFormed name
well_name name h = go (utf8 name) refl h
  where
    go : (o : Outcome Unit) → utf8 name ≡ o → refuses o ≡ false → WellFormed name
    go (gives tt) e k = (accepted_exactly name).0 e
    go (refused n) e k = absurd (let z : ◌≡◌ {A = ℕ} 0 1 = cc in omega arith)

mutual
  pub readable_by : (d : Dtype) → untyped d ≡ false → ill_named d ≡ false → Readable d
  readable_by (plain t) p q = not-false (is_type t) p
  readable_by (array n d) p q = readable_by d p q
  readable_by (record_of fs) p q = all_by fs p q

  all_by : (fs : Fields) → untyped_in fs ≡ false → ill_named_in fs ≡ false → AllReadable fs
  all_by end_of_fields p q = tt
  all_by (field_then name d fs) p q =
      let named = or_right (refuses (utf8 name)) (ill_named d || ill_named_in fs) q in (
        well_name name (or_left (refuses (utf8 name)) (ill_named d || ill_named_in fs) q),
        readable_by d (or_left (untyped d) (untyped_in fs) p) (or_left (ill_named d) (ill_named_in fs) named),
        all_by fs (or_right (untyped d) (untyped_in fs) p) (or_right (ill_named d) (ill_named_in fs) named),
      )
