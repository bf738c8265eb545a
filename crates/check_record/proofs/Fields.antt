-- What the loop of `fields_over` keeps: the bytes passed and those that are left are all of them, and the fields that are left lie in the record.
use Prim.Native.Nat.{ℕ, suc, ◌+◌, ◌-◌, ◌^◌, ◌<◌, ◌≤◌}
use mathlib.Core.Path.{◌≡◌, sym}
use mathlib.Core.Bool.{true, false}
use mathlib.Core.List.{List}
use native.Mathlib.Omega.{arith}
use borrow.Author.Tests.{le-leb, lt-leb}
use Rattle.dtype.specs.declared.Entry.{Entry}
use Rattle.counts.specs.Number.{capped}
use Rattle.dtype.specs.Limits.{over}
use Rattle.dtype.specs.Agrees.{entry_at, FieldsAgree, RecordAgrees}
use Rattle.dtype.specs.Seen.{field_bytes}

pub record Summing (t : List ℕ) (n e left c bytes : ℕ) : Type 0 where
  pub end : ℕ
  pub total : ℕ
  pub passed : ℕ
  pub end_in : end ≤ n
  pub agree : FieldsAgree t e end total left c passed
  pub sum : field_bytes t (entry_at t e).number (suc e) ≡ bytes + field_bytes t left c
  pub low : bytes < 2 ^ 64

pub summing_start : (t : List ℕ) (n e : ℕ) (x : Entry) → x ≡ entry_at t e → RecordAgrees t n e → Summing t n e x.number (e + 1) 0
summing_start t n e x s a =
    let z : e + 1 ≡ suc e = omega arith in
    rw (s, z)
    (record {
      end = e + (entry_at t e).extent;
      total = (entry_at t e).bytes;
      passed = 0;
      end_in = a.within;
      agree = a.fields;
      sum = omega arith;
      low = omega arith;
    })

-- after i of the fields, where there is one more
pub one_left : (t : List ℕ) (n e number i c bytes : ℕ) → Summing t n e (number - i) c bytes → i < number → Summing t n e (suc (number - (i + 1))) c bytes
one_left t n e number i c bytes k l = let z : number - i ≡ suc (number - (i + 1)) = omega arith in rw z at k

-- where one field more is left than `left`
module _ (t : List ℕ) (n e left c bytes : ℕ) (k : Summing t n e (suc left) c bytes) where
  pub field_in : c + (entry_at t c).extent ≤ n
  field_in = omega (arith, k.agree.2, k.end_in)

  pub summing_over : (x : Entry) → x ≡ entry_at t c → 2 ^ 64 ≤ bytes + x.bytes → true ≡ over (field_bytes t (entry_at t e).number (suc e))
  summing_over x s h =
      let h' : 2 ^ 64 ≤ bytes + (entry_at t c).bytes = rw s at h in
      sym (le-leb (2 ^ 64) (field_bytes t (entry_at t e).number (suc e)) (omega (arith, k.sum)))

  pub summing_next : (x : Entry) (more : ℕ) → x ≡ entry_at t c → more ≡ bytes + x.bytes → more < 2 ^ 64
      → Summing t n e left (c + x.extent) more
  summing_next x more s m b =
      let m' : more ≡ bytes + (entry_at t c).bytes = rw s at m in
      rw s
      (record {
        end = k.end;
        total = k.total;
        passed = capped (k.passed + (entry_at t c).bytes);
        end_in = k.end_in;
        agree = k.agree.3;
        sum = omega (arith, k.sum);
        low = b;
      })

pub summing_end : (t : List ℕ) (n e left c bytes : ℕ) → Summing t n e left c bytes → left ≤ 0
    → false ≡ over (field_bytes t (entry_at t e).number (suc e))
summing_end t n e left c bytes k l =
    let z : left ≡ 0 = omega arith in
    let s : field_bytes t (entry_at t e).number (suc e) ≡ bytes + 0 = rw z at k.sum in
    sym (lt-leb (2 ^ 64) (field_bytes t (entry_at t e).number (suc e)) (omega (arith, k.low)))
