-- 21 as the code tests it: the size of an entry, by its kind.
use Prim.Native.Nat.{ℕ, zero, suc, ◌+◌, ◌*◌}
use mathlib.Core.Path.{◌≡◌, refl, ap, sym, ◌∙◌}
use mathlib.Core.List.{List}
use native.Mathlib.Omega.{arith}
use Rattle.counts.specs.Number.{number}
use Rattle.dtype.specs.PlainBytes.{bytes_for}
use Rattle.dtype.specs.Limits.{over}
use Rattle.dtype.specs.Agrees.{entry_at, Agrees, AgreesAs, RecordAgrees}
use Rattle.dtype.specs.Seen.{field_bytes, over_at}
use Rattle.dtype.specs.declared.Entry.{Entry}
use Rattle.counts.specs.Counts.{bytes, bytes_over}
use Rattle.counts.proofs.Counted.{bytes_test}

module _ (t : List ℕ) (n e : ℕ) (x : Entry) (s : x ≡ entry_at t e) where
  kind_is : (k : ℕ) → x.kind ≡ k → (entry_at t e).kind ≡ k
  kind_is k h = ap (λ (a : Entry). a.kind) (sym s) ∙ h

  pub plain_size : x.kind ≡ 0 → over (bytes_for x.letter x.number) ≡ over_at t e
  plain_size h = rw (kind_is 0 h, s)

  pub array_size : x.kind ≡ 1 → (y : Entry) → y ≡ entry_at t (e + 1) → bytes_over (bytes (number (x.number * y.bytes))) ≡ over_at t e
  array_size h y q =
      let z : e + 1 ≡ suc e = omega arith in
      let p : y ≡ entry_at t (suc e) = rw z at q in
      bytes_test (x.number * y.bytes) ∙ rw (kind_is 1 h, s, p)

  -- an entry that is neither plain nor an array is a record's
  pub is_record : (x.kind ≡ 0 → ⊥) → (x.kind ≡ 1 → ⊥) → Agrees t n e → ((entry_at t e).kind ≡ 2) × RecordAgrees t n e
  is_record p q a = go (entry_at t e).kind refl a
    where
      go : (k : ℕ) → (entry_at t e).kind ≡ k → AgreesAs k t n e → ((entry_at t e).kind ≡ 2) × RecordAgrees t n e
      go zero h g = absurd (p (ap (λ (a : Entry). a.kind) s ∙ h))
      go (suc zero) h g = absurd (q (ap (λ (a : Entry). a.kind) s ∙ h))
      go (suc (suc zero)) h g = (h, g)
      go (suc (suc (suc k))) h g = absurd g

  pub record_size : (x.kind ≡ 0 → ⊥) → (x.kind ≡ 1 → ⊥) → Agrees t n e → over (field_bytes t (entry_at t e).number (suc e)) ≡ over_at t e
  record_size p q a = rw (is_record p q a).0
