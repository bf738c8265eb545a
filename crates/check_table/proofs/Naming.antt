-- What the loop over the names keeps, from the first entry.
use Prim.Native.Nat.{ℕ, suc, ◌+◌, ◌-◌, ◌<◌, ◌≤◌}
use mathlib.Core.Path.{◌≡◌, refl, ap, sym, ◌∙◌}
use mathlib.Core.Bool.{Bool, true, false, not}
use mathlib.Core.List.{List}
use mathlib.Core.Logic.{⊎_elim}
use native.Mathlib.Omega.{arith}
use lib.Dec.{eqb}
use lib.ListN.{length, take, drop}
use Rattle.counts.proofs.Alike.{true_false}
use Rattle.counts.proofs.Sides.{lt_or_ge}
use Rattle.utf8.specs.Decode.{utf8}
use Rattle.dtype.specs.declared.Entry.{Entry}
use Rattle.dtype.specs.Agrees.{entry_at, name_start}
use Rattle.dtype.specs.Seen.{name_at}
use Rattle.dtype.proofs.Whole.{name_start_grows}
use Rattle.check_table.specs.Decides.{refuses, Decides}
use Rattle.check_table.specs.Named.{ill_name_at, NamesPass}
use Rattle.check_table.proofs.Tests.{by_eqb}
use Rattle.table_entry.proofs.Walks.{none_passes, one_passes}

pub record Naming (t ns : List ℕ) (n start e : ℕ) : Type 0 where
  pub within : e ≤ n
  pub at : start ≡ name_start t e
  pub inside : start ≤ length ns
  pub well : (c : ℕ) → c < e → ill_name_at t ns c ≡ false

pub naming_start : (t ns : List ℕ) (n : ℕ) → Naming t ns n 0 0
naming_start t ns n = record { within = omega arith; at = refl; inside = omega arith; well = λ c l. absurd (omega arith) }

module _ (t ns : List ℕ) (n start e : ℕ) (k : Naming t ns n start e) (l : e < n) (x : Entry) (s : x ≡ entry_at t e) where
  -- a name that is longer than what is left
  pub name_past : length ns - start < x.name → NamesPass t ns n → ⊥
  name_past h d =
      let h' : length ns - start < (entry_at t e).name = rw s at h in
      let z : suc e + (n - suc e) ≡ n = omega arith in
      omega (arith, rw z at (name_start_grows t (suc e) (n - suc e)), d.long, k.at, k.inside)

  -- the name itself
  name_is : (end : ℕ) → end ≡ start + x.name → take (end - start) (drop start ns) ≡ name_at t ns e
  name_is end q =
      let y : end - start ≡ x.name = omega (arith, q) in
      let z : end - start ≡ (entry_at t e).name = rw s at y in
      rw (z, k.at)

  module _ (end : ℕ) (q : end ≡ start + x.name) (r : Bool) (v : r ≡ not (refuses (utf8 (take (end - start) (drop start ns))))) where
    ill_is : r ≡ not (ill_name_at t ns e)
    ill_is = v ∙ ap (λ (y : List ℕ). not (refuses (utf8 y))) (name_is end q)

    pub name_ill : r ≡ false → NamesPass t ns n → ⊥
    name_ill f d = go (ill_name_at t ns e) refl
      where
        go : (b : Bool) → ill_name_at t ns e ≡ b → ⊥
        go true p = true_false (one_passes (ill_name_at t ns) n e l p ∙ d.all_well)
        go false p = true_false (sym (ill_is ∙ ap not p) ∙ f)

    pub naming_next : x.name ≤ length ns - start → r ≡ true → Naming t ns n end (e + 1)
    naming_next f g =
        let z : e + 1 ≡ suc e = omega arith in
        let v : end ≡ name_start t e + x.name = omega (arith, q, k.at) in
        let y : end ≡ name_start t e + (entry_at t e).name = rw s at v in
        record {
          within = omega arith;
          at = rw z y;
          inside = omega (arith, q, k.inside, f);
          well = λ c u.
              ⊎_elim
              (λ (w : c < e). k.well c w)
              (λ (w : e ≤ c). let v : c ≡ e = omega arith in rw v (well_here (ill_name_at t ns e) refl))
              (lt_or_ge c e);
        }
      where
        well_here : (b : Bool) → ill_name_at t ns e ≡ b → ill_name_at t ns e ≡ false
        well_here true p = true_false (sym g ∙ ill_is ∙ ap not p)
        well_here false p = p

pub naming_end : (t ns : List ℕ) (n start e : ℕ) → Naming t ns n start e → n ≤ e → Decides (eqb start (length ns)) (NamesPass t ns n)
naming_end t ns n start e k l =
    let z : e ≡ n = omega (arith, k.within) in
    by_eqb start (length ns)
    (λ q. record { long = rw z at (sym k.at) ∙ q; all_well = sym (none_passes (ill_name_at t ns) n (λ c u. k.well c (omega arith))) })
    (λ d. rw z at k.at ∙ d.long)
