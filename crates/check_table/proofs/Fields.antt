-- What the loop of `record_agrees` keeps: the record agrees with its fields exactly if the remaining ones agree.
use Prim.Native.Nat.{ℕ, suc, ◌+◌, ◌-◌, ◌<◌, ◌≤◌}
use mathlib.Core.Path.{◌≡◌}
use mathlib.Core.List.{List}
use native.Mathlib.Omega.{arith}
use Rattle.dtype.specs.declared.Entry.{Entry}
use Rattle.counts.specs.Number.{capped}
use Rattle.dtype.specs.Agrees.{entry_at, FieldsAgree, RecordAgrees}

-- the loop of `record_agrees`: `left` fields from entry c on, `bytes` before them
pub record Linking (t : List ℕ) (n e end total left c bytes : ℕ) : Type 0 where
  pub inside : e < n
  pub end_in : end ≤ n
  pub there : RecordAgrees t n e → FieldsAgree t e end total left c bytes
  pub back : FieldsAgree t e end total left c bytes → RecordAgrees t n e

-- after k of the fields, where there is one more
pub one_left : (t : List ℕ) (n e end total number k c bytes : ℕ) → Linking t n e end total (number - k) c bytes → k < number
    → Linking t n e end total (suc (number - (k + 1))) c bytes
one_left t n e end total number k c bytes h l = let z : number - k ≡ suc (number - (k + 1)) = omega arith in rw z at h

-- where one field more is left than `left`
module _ (t : List ℕ) (n e end total left c bytes : ℕ) (k : Linking t n e end total (suc left) c bytes) where
  pub field_view : (x : Entry) → x ≡ entry_at t c → RecordAgrees t n e → (c < end) × (x.parent ≡ e) × (c + x.extent ≤ end)
  field_view x s a = let f = k.there a in rw s (f.0, f.1, f.2)

  pub linking_next : (x : Entry) (b : ℕ) → x ≡ entry_at t c → c < end → x.parent ≡ e → c + x.extent ≤ end → b ≡ capped (bytes + x.bytes)
      → Linking t n e end total left (c + x.extent) b
  linking_next x b s u p w q =
      let p' : (entry_at t c).parent ≡ e = rw s at p in
      let w' : c + (entry_at t c).extent ≤ end = rw s at w in
      rw (q, s)
      (record {
        inside = k.inside;
        end_in = k.end_in;
        there = λ a. (k.there a).3;
        back = λ f. k.back (u, p', w', f);
      })
