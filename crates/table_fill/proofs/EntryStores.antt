-- Stores in a part of a room, and those of an entry; runs of stores are Stores.antt. The tables and names of crate dtype, followed by a rest, are themselves and then the
-- rest.
use Prim.Native.Nat.{ℕ, zero, suc, ◌+◌, ◌-◌, ◌≤◌}
use native.Mathlib.Omega.{arith}
use mathlib.Core.Path.{◌≡◌, refl, sym, ap, ◌∙◌}
use mathlib.Core.List.{List, [], ◌∷◌, ◌++◌, append_assoc, append-nil}
use lib.ListN.{length, set, take, drop, length-drop}
use lib.Seq.{sets, take_all, drop-length}
use borrow.Rule.Slice.PartMut.{put_mid, mid_of}
pub use Rattle.table_fill.proofs.Stores.{sets_append}
use Rattle.dtype.specs.Dtype.{Dtype, Fields, plain, array, record_of, end_of_fields, field_then}
use Rattle.dtype.specs.Entries.{entries_of}
use Rattle.dtype.specs.Record.{names_of, names_in, flat, flats}
use Rattle.dtype.specs.EntryOf.{entry_of, entry_numbers}

-- a store in a part, seen from the whole
shift : (y : ℕ) (l : List ℕ) (k : ℕ) (xs : List ℕ) → y ∷ sets l k xs ≡ sets (y ∷ l) (suc k) xs
shift y l k [] = refl
shift y l k (x ∷ xs) = shift y (set l k x) (suc k) xs

sets_nothing : (k : ℕ) (xs : List ℕ) → [] ≡ sets [] k xs
sets_nothing k [] = refl
sets_nothing k (x ∷ xs) = sets_nothing (suc k) xs

pub part_sets : (l : List ℕ) (k : ℕ) (xs : List ℕ) → take k l ++ sets (drop k l) 0 xs ≡ sets l k xs
part_sets l zero xs = refl
part_sets [] (suc k) xs = sym (sets_nothing 0 xs) ∙ sets_nothing (suc k) xs
part_sets (y ∷ l) (suc k) xs = ap (λ (r : List ℕ). y ∷ r) (part_sets l k xs) ∙ shift y l k xs

-- the same for the part up to the end, put back in its place
pub part_stored : (l : List ℕ) (k : ℕ) (xs : List ℕ) → k ≤ length l → put_mid k (length l - k) l (sets (mid_of k (length l - k) l) 0 xs) ≡ sets l k xs
part_stored l k xs le =
    let n = length-drop k l in
    let whole : take (length l - k) (drop k l) ≡ drop k l = take_all (length l - k) (drop k l) (omega (arith, n)) in
    let none : drop (length l - k) (drop k l) ≡ [] = ap (λ (i : ℕ). drop i (drop k l)) (sym n) ∙ drop-length (drop k l) in
    ap (λ (y : List ℕ). take k l ++ (sets y 0 xs ++ drop (length l - k) (drop k l))) whole
    ∙ ap (λ (y : List ℕ). take k l ++ (sets (drop k l) 0 xs ++ y)) none
    ∙ ap (λ (y : List ℕ). take k l ++ y) (append-nil (sets (drop k l) 0 xs))
    ∙ part_sets l k xs

-- the nine stores of an entry
pub nine : (l : List ℕ) (i a b c d e f g h j : ℕ)
    → set (set (set (set (set (set (set (set (set l i a) (i + 1) b) (i + 2) c) (i + 3) d) (i + 4) e) (i + 5) f) (i + 6) g) (i + 7) h) (i + 8) j
    ≡ sets l i (a ∷ b ∷ c ∷ d ∷ e ∷ f ∷ g ∷ h ∷ j ∷ [])
nine l i a b c d e f g h j =
    let e1 : i + 1 ≡ suc i = omega arith in
    let e2 : i + 2 ≡ suc (suc i) = omega arith in
    let e3 : i + 3 ≡ suc (suc (suc i)) = omega arith in
    let e4 : i + 4 ≡ suc (suc (suc (suc i))) = omega arith in
    let e5 : i + 5 ≡ suc (suc (suc (suc (suc i)))) = omega arith in
    let e6 : i + 6 ≡ suc (suc (suc (suc (suc (suc i))))) = omega arith in
    let e7 : i + 7 ≡ suc (suc (suc (suc (suc (suc (suc i)))))) = omega arith in
    let e8 : i + 8 ≡ suc (suc (suc (suc (suc (suc (suc (suc i))))))) = omega arith in
    rw (e1, e2, e3, e4, e5, e6, e7, e8) refl

-- ---- in front of a rest
mutual
  pub flat_front : (d : Dtype) (at up m : ℕ) (x : List ℕ) → flat d at up m x ≡ flat d at up m [] ++ x
  flat_front (plain t) at up m x = refl
  flat_front (array n d) at up m x = ap (entry_numbers (entry_of (array n d) up m)) (flat_front d (suc at) at 0 x)
  flat_front (record_of fs) at up m x = ap (entry_numbers (entry_of (record_of fs) up m)) (flats_front fs (suc at) at x)

  pub flats_front : (fs : Fields) (at up : ℕ) (x : List ℕ) → flats fs at up x ≡ flats fs at up [] ++ x
  flats_front end_of_fields at up x = refl
  flats_front (field_then name d fs) at up x =
      ap (flat d at up (length name)) (flats_front fs (at + entries_of d) up x)
      ∙ flat_front d at up (length name) (flats fs (at + entries_of d) up [] ++ x)
      ∙ sym (append_assoc (flat d at up (length name) []) (flats fs (at + entries_of d) up []) x)
      ∙ ap (λ (r : List ℕ). r ++ x) (sym (flat_front d at up (length name) (flats fs (at + entries_of d) up [])))

mutual
  pub names_front : (d : Dtype) (y : List ℕ) → names_of d y ≡ names_of d [] ++ y
  names_front (plain t) y = refl
  names_front (array n d) y = names_front d y
  names_front (record_of fs) y = names_in_front fs y

  pub names_in_front : (fs : Fields) (y : List ℕ) → names_in fs y ≡ names_in fs [] ++ y
  names_in_front end_of_fields y = refl
  names_in_front (field_then name d fs) y =
      ap (λ (r : List ℕ). name ++ r)
      (ap (names_of d) (names_in_front fs y) ∙ names_front d (names_in fs [] ++ y) ∙ sym (append_assoc (names_of d []) (names_in fs []) y) ∙ ap (λ (r : List ℕ). r ++ y) (sym (names_front d (names_in fs []))))
      ∙ sym (append_assoc name (names_of d (names_in fs [])) y)
