-- Totals that are capped add up as if they were not: what is past a cap once stays past it. Each part of `together` by itself, then `together` as a
-- whole: it is associative, and nothing added changes nothing.
use Prim.Native.Nat.{ℕ, ◌+◌, ◌^◌, ◌<◌, ◌≤◌}
use native.Mathlib.Omega.{arith}
use mathlib.Core.Path.{◌≡◌, refl, sym, ap, ◌∙◌}
use mathlib.Core.Bool.{Bool, true, false, ◌||◌, or_assoc, or-false}
use borrow.Author.Tests.{leb-true, leb-false, le-leb, lt-leb}
use Rattle.counts.specs.Outcome.{Outcome, gives, refused}
use Rattle.counts.specs.Number.{number}
use Rattle.counts.specs.Counts.{bytes, as_bytes, held_bytes}
use Rattle.counts.specs.declared.Bytes.{Bytes}
use Rattle.counts.proofs.Counted.{bytes_eq, held_bytes_lem as held}
use Rattle.dtype.specs.Limits.{over}
use Rattle.descr_totals.specs.declared.Totals.{Totals}
use Rattle.descr_totals.specs.Totals.{at_most, largest, together}
use Rattle.descr_totals.specs.Verdict.{both}

-- of no field, of a record's own entry, and of a name of so many bytes
abbrev pub nothing : Totals
nothing = record { entries = 0; names = 0; object = false; over_levels = false; over = false; size = as_bytes 0 }

abbrev pub one_entry : Totals
one_entry = record { entries = 1; names = 0; object = false; over_levels = false; over = false; size = as_bytes 0 }

pub totals_eq : {e e' n n' : ℕ} {o o' w w' v v' : Bool} {z z' : Bytes} → e ≡ e' → n ≡ n' → o ≡ o' → w ≡ w' → v ≡ v' → z ≡ z'
    → ◌≡◌ {A = Totals} (record { entries = e; names = n; object = o; over_levels = w; over = v; size = z }) (record { entries = e'; names = n'; object = o'; over_levels = w'; over = v'; size = z' })
totals_eq he hn ho hw hv hz = cc

-- ---- tests
pub over_never : (n : ℕ) → n < 2 ^ 64 → over n ≡ false
over_never n h = lt-leb (2 ^ 64) n h

pub over_not : (n : ℕ) → over n ≡ false → n < 2 ^ 64
over_not n h = leb-false (2 ^ 64) n h

pub over_is : (n : ℕ) → 2 ^ 64 ≤ n → over n ≡ true
over_is n h = le-leb (2 ^ 64) n h

pub over_more : (a b : ℕ) → a ≤ b → over a ≡ true → over b ≡ true
over_more a b le h = over_is b (omega (arith, leb-true (2 ^ 64) a h))

pub held_bytes_lem : (n : ℕ) → held_bytes (bytes (number n)) ≡ as_bytes (at_most largest n)
held_bytes_lem n = held n ∙ bytes_eq (omega arith)

-- ---- caps
pub cap_assoc : (m a b c : ℕ) → at_most m (at_most m (a + b) + c) ≡ at_most m (a + at_most m (b + c))
cap_assoc m a b c = omega arith

pub cap_again : (m n : ℕ) → at_most m (at_most m n + 0) ≡ at_most m n
cap_again m n = omega arith

pub cap_front : (m n : ℕ) → at_most m (0 + at_most m n) ≡ at_most m n
cap_front m n = omega arith

-- what is capped is not over
pub over_sum : (n : ℕ) → over (at_most largest n + 0) ≡ false
over_sum n = over_never (at_most largest n + 0) (omega arith)

over_left : (a c : ℕ) → (over a || over (at_most largest a + c)) ≡ over (a + c)
over_left a c = go (over a) refl
  where
    go : (t : Bool) → over a ≡ t → (t || over (at_most largest a + c)) ≡ over (a + c)
    go true h = sym (over_more a (a + c) (omega arith) h)
    go false h =
        let lt = over_not a h in
        let e : at_most largest a + c ≡ a + c = omega arith in
        ap over e

over_right : (a c : ℕ) → (over c || over (a + at_most largest c)) ≡ over (a + c)
over_right a c = go (over c) refl
  where
    go : (t : Bool) → over c ≡ t → (t || over (a + at_most largest c)) ≡ over (a + c)
    go true h = sym (over_more c (a + c) (omega arith) h)
    go false h =
        let lt = over_not c h in
        let e : a + at_most largest c ≡ a + c = omega arith in
        ap over e

over_either : (a b c : ℕ) → (over (a + b) || over (at_most largest (a + b) + c)) ≡ (over (b + c) || over (a + at_most largest (b + c)))
over_either a b c =
    let e : a + b + c ≡ a + (b + c) = omega arith in
    over_left (a + b) c ∙ (ap over e ∙ sym (over_right a (b + c)))

regroup : (o p q x y u z : Bool) → (x || y) ≡ (u || z) → ((((o || p) || x) || q) || y) ≡ ((o || ((p || q) || u)) || z)
regroup true p q x y u z h = refl
regroup false true q x y u z h = refl
regroup false false true true y u z h = refl
regroup false false true false y u z h = refl
regroup false false false true y u z h = h
regroup false false false false y u z h = h

-- ---- totals
pub together_assoc : (a b c : Totals) → together (together a b) c ≡ together a (together b c)
unfolding together
together_assoc a b c =
    totals_eq (cap_assoc 513 a.entries b.entries c.entries) (cap_assoc 65537 a.names b.names c.names) (or_assoc a.object b.object c.object) (or_assoc a.over_levels b.over_levels c.over_levels)
    (regroup a.over b.over c.over _ _ _ _ (over_either a.size.0 b.size.0 c.size.0))
    (bytes_eq (cap_assoc largest a.size.0 b.size.0 c.size.0))

-- what was added once is capped
pub together_nothing : (a b : Totals) → together (together a b) nothing ≡ together a b
unfolding together
together_nothing a b =
    totals_eq (cap_again 513 _) (cap_again 65537 _) (or-false _) (or-false _)
    (ap (λ (t : Bool). (((a.over || b.over) || over (a.size.0 + b.size.0)) || false) || t) (over_sum (a.size.0 + b.size.0)) ∙ (or-false _ ∙ or-false _))
    (bytes_eq (cap_again largest _))

pub both_assoc : (a b c : Outcome Totals) → both (both a b) c ≡ both a (both b c)
both_assoc (gives a) (gives b) (gives c) = ap gives (together_assoc a b c)
both_assoc (gives a) (gives b) (refused n) = refl
both_assoc (gives a) (refused n) c = refl
both_assoc (refused n) b c = refl

pub both_nothing : (a b : Outcome Totals) → both (both a b) (gives nothing) ≡ both a b
both_nothing (gives a) (gives b) = ap gives (together_nothing a b)
both_nothing (gives a) (refused n) = refl
both_nothing (refused n) b = refl
