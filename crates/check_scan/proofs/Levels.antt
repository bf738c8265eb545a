-- What the loop over array levels keeps, from the last entry: the levels that begin at an array are one more than those at the next entry.
use Prim.Native.Nat.{ℕ, suc, ◌-◌, ◌<◌, ◌≤◌}
use mathlib.Core.Path.{◌≡◌}
use mathlib.Core.Bool.{Bool, true, false, cond}
use mathlib.Core.List.{List}
use native.Mathlib.Omega.{arith}
use borrow.Author.Tests.{lt-ltb, le-ltb}
use lib.Dec.{eqb, ltb}
use Rattle.dtype.specs.declared.Entry.{Entry}
use Rattle.dtype.specs.Agrees.{entry_at}
use Rattle.dtype.specs.Seen.{some_from, arrays_from}
use Rattle.table_entry.proofs.Walks.{none_passes, one_passes}
use Rattle.table_entry.proofs.Walks.{one_more}

abbrev pub deep_at : List ℕ → (n e : ℕ) → Bool
deep_at t n e = ltb 32 (arrays_from t (n - e) e)

pub record Deepening (t : List ℕ) (n levels e : ℕ) : Type 0 where
  pub within : e ≤ n
  pub low : levels ≤ 32
  pub is : levels ≡ arrays_from t (n - e) e
  pub none : (c : ℕ) → e ≤ c → c < n → deep_at t n c ≡ false

pub deepening_start : (t : List ℕ) (n : ℕ) → Deepening t n 0 n
deepening_start t n =
    let z : n - n ≡ 0 = omega arith in
    record { within = omega arith; low = omega arith; is = rw z; none = λ c l u. absurd (omega arith) }

module _ (t : List ℕ) (n levels e : ℕ) (k : Deepening t n levels e) (l : 0 < e) (x : Entry) (s : x ≡ entry_at t (e - 1)) (m : ℕ)
    (q : m ≡ cond (eqb x.kind 1) (suc levels) 0) where
  next_is : m ≡ arrays_from t (n - (e - 1)) (e - 1)
  next_is =
      let z : n - (e - 1) ≡ suc (n - e) = omega (arith, k.within) in
      let y : suc (e - 1) ≡ e = omega (arith, l) in
      let p : m ≡ cond (eqb (entry_at t (e - 1)).kind 1) (suc levels) 0 = rw s at q in
      rw (z, y, ← k.is) p

  pub deepening_over : 32 < m → true ≡ some_from (deep_at t n) n 0
  deepening_over h =
      one_passes (deep_at t n) n (e - 1) (omega (arith, k.within, l)) (rw (← next_is) (lt-ltb 32 m h))

  pub deepening_next : m ≤ 32 → Deepening t n m (e - 1)
  deepening_next h =
      record {
        within = omega (arith, k.within);
        low = h;
        is = next_is;
        none = one_more (λ c. deep_at t n c ≡ false) n e l k.none (rw (← next_is) (le-ltb 32 m h));
      }

pub deepening_end : (t : List ℕ) (n levels e : ℕ) → Deepening t n levels e → e ≤ 0 → false ≡ some_from (deep_at t n) n 0
deepening_end t n levels e k l = none_passes (deep_at t n) n (λ c u. k.none c (omega arith) u)
