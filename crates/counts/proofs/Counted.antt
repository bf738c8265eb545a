-- Counts of items and of bytes taken out of their answers, the test whether they are over 2^64-1, and what an entry holds of them.
use Rattle.std.specs.Prelude.{None, Some, Option, Bool, true, false, not, is_some}
use Prim.Native.Nat.{ℕ, ◌^◌, ◌<◌, ◌≤◌}
use native.Mathlib.Omega.{arith}
use mathlib.Core.Path.{◌≡◌, refl, ap, sym, ◌∙◌}
use mathlib.Core.Logic.{⊎_elim}
use borrow.Author.Tests.{le-leb, lt-leb}
use lib.Dec.{leb}
use Rattle.counts.specs.Number.{number, capped}
use Rattle.counts.specs.Counts.{items, bytes, items_over, bytes_over, as_bytes, held_bytes}
use Rattle.counts.specs.declared.Items.{Items}
use Rattle.counts.specs.declared.Bytes.{Bytes}
use Rattle.counts.proofs.Fits.{number_is, number_over, number_is_back, number_over_back}
use Rattle.counts.proofs.Sides.{lt_or_ge}
use Rattle.counts.proofs.Alike.{true_false}

-- ---- items
items_of : (v : Option ℕ) (m : Items) → Some m ≡ items v → v ≡ Some m.0
items_of (Some n) m e = let z : m ≡ record { 0 = n } = cc in ap (λ (x : Items). Some x.0) (sym z)
items_of None m e = let z : ◌≡◌ {A = ℕ} 0 1 = cc in absurd (omega arith)

items_over_of : (v : Option ℕ) → None ≡ items v → v ≡ None
items_over_of (Some n) e = let z : ◌≡◌ {A = ℕ} 0 1 = cc in absurd (omega arith)
items_over_of None e = refl

pub items_back : (n : ℕ) (m : Items) → Some m ≡ items (number n) → (n ≡ m.0) × (n < 2 ^ 64)
items_back n m e = number_is_back n m.0 (items_of (number n) m e)

pub items_over_lem : (n : ℕ) → None ≡ items (number n) → 2 ^ 64 ≤ n
items_over_lem n e = number_over_back n (items_over_of (number n) e)

pub is_items : (m : Items) (n : ℕ) → n ≡ m.0 → n < 2 ^ 64 → Some m ≡ items (number n)
is_items m n e l = sym (ap (λ (v : Option ℕ). items v) (number_is n l) ∙ ap (λ (y : ℕ). Some (record { 0 = y })) e)

pub over_items : (n : ℕ) → 2 ^ 64 ≤ n → None ≡ items (number n)
over_items n l = sym (ap (λ (v : Option ℕ). items v) (number_over n l))

pub items_test : (n : ℕ) → items_over (items (number n)) ≡ leb (2 ^ 64) n
items_test n =
    ⊎_elim
    (λ (l : n < 2 ^ 64). simp (number_is n l, lt-leb (2 ^ 64) n l))
    (λ (l : 2 ^ 64 ≤ n). simp (number_over n l, le-leb (2 ^ 64) n l))
    (lt_or_ge n (2 ^ 64))

-- ---- bytes
bytes_of : (v : Option ℕ) (m : Bytes) → Some m ≡ bytes v → v ≡ Some m.0
bytes_of (Some n) m e = let z : m ≡ record { 0 = n } = cc in ap (λ (x : Bytes). Some x.0) (sym z)
bytes_of None m e = let z : ◌≡◌ {A = ℕ} 0 1 = cc in absurd (omega arith)

bytes_over_of : (v : Option ℕ) → None ≡ bytes v → v ≡ None
bytes_over_of (Some n) e = let z : ◌≡◌ {A = ℕ} 0 1 = cc in absurd (omega arith)
bytes_over_of None e = refl

pub bytes_back : (n : ℕ) (m : Bytes) → Some m ≡ bytes (number n) → (n ≡ m.0) × (n < 2 ^ 64)
bytes_back n m e = number_is_back n m.0 (bytes_of (number n) m e)

pub bytes_over_lem : (n : ℕ) → None ≡ bytes (number n) → 2 ^ 64 ≤ n
bytes_over_lem n e = number_over_back n (bytes_over_of (number n) e)

pub over_bytes : (n : ℕ) → 2 ^ 64 ≤ n → None ≡ bytes (number n)
over_bytes n l = sym (ap (λ (v : Option ℕ). bytes v) (number_over n l))

pub bytes_test : (n : ℕ) → bytes_over (bytes (number n)) ≡ leb (2 ^ 64) n
bytes_test n =
    ⊎_elim
    (λ (l : n < 2 ^ 64). simp (number_is n l, lt-leb (2 ^ 64) n l))
    (λ (l : 2 ^ 64 ≤ n). simp (number_over n l, le-leb (2 ^ 64) n l))
    (lt_or_ge n (2 ^ 64))

pub bytes_eq : {m n : ℕ} → m ≡ n → as_bytes m ≡ as_bytes n
bytes_eq h = ap as_bytes h

pub held_bytes_lem : (n : ℕ) → held_bytes (bytes (number n)) ≡ as_bytes (capped n)
held_bytes_lem n =
    ⊎_elim
    (λ (l : n < 2 ^ 64). ap (λ (v : Option ℕ). held_bytes (bytes v)) (number_is n l) ∙ bytes_eq (omega arith))
    (λ (l : 2 ^ 64 ≤ n). ap (λ (v : Option ℕ). held_bytes (bytes v)) (number_over n l) ∙ bytes_eq (omega arith))
    (lt_or_ge n (2 ^ 64))

-- the library's test for `None` is any test that holds of `None` alone
pub none_test : {A : Type 0} (test : Option A → Bool) → test None ≡ true → ((a : A) → test (Some a) ≡ false) → (o : Option A) (b : Bool) → is_some o ≡ not b → b ≡ test o
none_test test n s None true h = sym n
none_test test n s None false h = true_false (sym h)
none_test test n s (Some a) true h = true_false h
none_test test n s (Some a) false h = sym (s a)
