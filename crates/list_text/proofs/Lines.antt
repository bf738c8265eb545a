-- One line after another: what is left of the table, and the names from the current one on.
use Prim.Native.Nat.{ℕ, zero, suc, ◌+◌, ◌-◌, ◌<◌, ◌≤◌, min}
use native.Mathlib.Omega.{arith}
use native.Mathlib.Numerals.{add-one}
use mathlib.Core.Path.{◌≡◌, refl, sym, ap, subst, ◌∙◌}
use mathlib.Core.List.{List}
use lib.ListN.{length, take, drop, drop_of_length-le, length-drop}
use lib.Seq.{sets, drop-drop, take_all}
use Rattle.counts.specs.Number.{capped}
use Rattle.emit.specs.Emits.{Emits}
use Rattle.emit.proofs.Pieces.{emits_length}
use Rattle.dtype.specs.declared.Entry.{Entry}
use Rattle.dtype.specs.Agrees.{entry_at, name_start}
use Rattle.dtype.specs.Seen.{name_at}
use Rattle.list_text.specs.Listing.{entry_line, entry_lines}

-- ---- a part of the names
module _ (ns : List ℕ) (start m : ℕ) (inside : start ≤ length ns) (end : ℕ) (e : end ≡ min (start + m) (length ns)) where
  pub past_inside : end ≤ length ns
  past_inside = omega (arith, e)

  -- what comes after it
  drop_past : drop end ns ≡ drop (start + m) ns
  drop_past = go (length ns - (start + m)) refl
    where
      go : (k : ℕ) → length ns - (start + m) ≡ k → drop end ns ≡ drop (start + m) ns
      go zero h =
          let a = drop_of_length-le ns {i = end} (omega (arith, e, h)) in
          let b = drop_of_length-le ns {i = start + m} (omega (arith, h)) in
          a ∙ sym b
      go (suc k) h = let same : end ≡ start + m = omega (arith, e, h) in ap (λ (n : ℕ). drop n ns) same

  -- the part itself
  take_past : take (end - start) (drop start ns) ≡ take m (drop start ns)
  take_past = go (length ns - (start + m)) refl
    where
      go : (k : ℕ) → length ns - (start + m) ≡ k → take (end - start) (drop start ns) ≡ take m (drop start ns)
      go zero h =
          let l = length-drop start ns in
          let a = take_all (end - start) (drop start ns) (omega (arith, e, h, l)) in
          let b = take_all m (drop start ns) (omega (arith, h, l)) in
          a ∙ sym b
      go (suc k) h = let same : end - start ≡ m = omega (arith, e, h) in ap (λ (n : ℕ). take n (drop start ns)) same

  module _ (t : List ℕ) (i : ℕ) (named : drop start ns ≡ drop (name_start t i) ns) (is : m ≡ (entry_at t i).name) where
    pub name_there : take (end - start) (drop start ns) ≡ name_at t ns i
    name_there = take_past ∙ ap (take m) named ∙ ap (λ (n : ℕ). take n (drop (name_start t i) ns)) is

    pub next_there : drop end ns ≡ drop (name_start t (suc i)) ns
    next_there = drop_past ∙ sym (drop-drop m start ns) ∙ ap (drop m) named ∙ drop-drop m (name_start t i) ns ∙ ap (λ (n : ℕ). drop (name_start t i + n) ns) is

-- ---- the loop
pub record Going (n : ℕ) (t ns old : List ℕ) (at : ℕ) (out : List ℕ) (p start e : ℕ) : Type 0 where
  pub below : e ≤ n
  pub same : length out ≡ length old
  pub inside : start ≤ length ns
  pub named : drop start ns ≡ drop (name_start t e) ns
  pub stored : (x : List ℕ) → sets out p (entry_lines (n - e) e t ns x) ≡ sets old at (entry_lines n 0 t ns x)
  pub after : (x : List ℕ) → capped (p + length (entry_lines (n - e) e t ns x)) ≡ capped (at + length (entry_lines n 0 t ns x))

pub going_more :
    (n : ℕ) (t ns old : List ℕ) (at : ℕ) (out : List ℕ) (p start e : ℕ) (entry : Entry) (end : ℕ) (out' : List ℕ) (p' : ℕ)
    → Going n t ns old at out p start e → e < n → entry ≡ entry_at t e → end ≡ min (start + entry.name) (length ns)
    → Emits (entry_line t e (take (end - start) (drop start ns))) out p out' p' → Going n t ns old at out' p' end (e + 1)
going_more n t ns old at out p start e entry end out' p' g lt he hend h =
    let m : entry.name ≡ (entry_at t e).name = ap (λ (y : Entry). y.name) he in
    let name = name_there ns start entry.name g.inside end hend t e g.named m in
    let written = subst (λ (w : List ℕ). Emits (entry_line t e w) out p out' p') name h in
    let one : n - e ≡ suc (n - suc e) = omega arith in
    record {
      below = omega arith;
      same = emits_length (entry_line t e (name_at t ns e)) out p out' p' written ∙ g.same;
      inside = past_inside ns start entry.name g.inside end hend;
      named = rw (add-one e) (next_there ns start entry.name g.inside end hend t e g.named m);
      stored = λ x. rw (add-one e) (written.stored (entry_lines (n - suc e) (suc e) t ns x) ∙ ap (λ (k : ℕ). sets out p (entry_lines k e t ns x)) (sym one) ∙ g.stored x);
      after = λ x. rw (add-one e) (written.after (entry_lines (n - suc e) (suc e) t ns x) ∙ ap (λ (k : ℕ). capped (p + length (entry_lines k e t ns x))) (sym one) ∙ g.after x);
    }
