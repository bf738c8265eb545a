-- The array levels of a table from an entry on, one after another, and the loop that puts them: those still to be put begin at the next entry. And the sub-shape after a
-- field's type, from the pieces that the code puts.
use Prim.Native.Nat.{ℕ, zero, suc, ◌+◌, ◌<◌}
use native.Mathlib.Omega.{arith}
use mathlib.Core.Path.{◌≡◌, refl, sym, ap, subst, ◌∙◌}
use mathlib.Core.List.{List, [], ◌∷◌}
use borrow.Author.Tests.{eq-eqb, ne_eqb}
use lib.ListN.{length}
use lib.Seq.{sets}
use Rattle.decimal.specs.Decimal.{printed}
use Rattle.counts.specs.Number.{capped}
use Rattle.emit.specs.Emits.{Emits}
use Rattle.emit.proofs.Pieces.{emits_then, emits_length}
use Rattle.literal_grammar.specs.Print.{print_row}
use Rattle.dtype.specs.declared.Entry.{Entry}
use Rattle.dtype.specs.Agrees.{entry_at}
use Rattle.record.specs.Layout.{dimension_row}
use Rattle.table_entry.proofs.Entry.{level_inside}
use Rattle.write_pieces.specs.Pieces.{levels_from, levels_at, sub_text}

module _ (t : List ℕ) (e : ℕ) where
  pub levels_more : (k : ℕ) → (entry_at t e).kind ≡ 1 → levels_from (suc k) t e ≡ (entry_at t e).number ∷ levels_from k t (e + 1)
  unfolding levels_from
  levels_more k h = simp (levels_from, eq-eqb (entry_at t e).kind 1 h)

  pub levels_none : (k : ℕ) → ((entry_at t e).kind ≡ 1 → ⊥) → levels_from k t e ≡ []
  unfolding levels_from
  levels_none zero h = refl
  levels_none (suc k) h = simp (levels_from, ne_eqb (entry_at t e).kind 1 h)

-- ---- the loop of `put_levels`: `level` is the entry that comes next
abbrev row : List ℕ → List ℕ → List ℕ
row s x = print_row (dimension_row 0 s) x

pub record Levels (t : List ℕ) (e : ℕ) (old : List ℕ) (at : ℕ) (out : List ℕ) (p c : ℕ) (level : Entry) : Type 0 where
  pub most : ℕ
  pub enough : most + c ≡ length t + e
  pub level_is : level ≡ entry_at t c
  pub same : length out ≡ length old
  pub stored : (x : List ℕ) → sets out p (row (levels_from most t c) x) ≡ sets old at (row (levels_at t e) x)
  pub after : (x : List ℕ) → capped (p + length (row (levels_from most t c) x)) ≡ capped (at + length (row (levels_at t e) x))

pub levels_start : (t : List ℕ) (e : ℕ) (old : List ℕ) (at : ℕ) (x : Entry) → x ≡ entry_at t e → Levels t e old at old at e x
levels_start t e old at x q =
    record {
      most = length t;
      enough = refl;
      level_is = q;
      same = refl;
      stored = λ y. refl;
      after = λ y. refl;
    }

module _ (t : List ℕ) (e : ℕ) (old : List ℕ) (at : ℕ) (out : List ℕ) (p c : ℕ) (level : Entry) (w : Levels t e old at out p c level) where
  kind_is : level.kind ≡ (entry_at t c).kind
  kind_is = ap (λ (a : Entry). a.kind) w.level_is

  pub levels_room : level.kind ≡ 1 → c < length t
  levels_room k = level_inside t c (sym kind_is ∙ k)

  pub levels_next : level.kind ≡ 1 → (out' : List ℕ) (p' : ℕ) → Emits (λ x. printed level.number (44 ∷ x)) out p out' p' → (y : Entry) → y ≡ entry_at t (c + 1)
      → Levels t e old at out' p' (c + 1) y
  levels_next k out' p' h y q = go w.most w.enough w.stored w.after
    where
      go : (m : ℕ) → m + c ≡ length t + e
          → ((x : List ℕ) → sets out p (row (levels_from m t c) x) ≡ sets old at (row (levels_at t e) x))
          → ((x : List ℕ) → capped (p + length (row (levels_from m t c) x)) ≡ capped (at + length (row (levels_at t e) x)))
          → Levels t e old at out' p' (c + 1) y
      go zero n s b = absurd (omega (arith, levels_room k))
      go (suc m) n s b =
          let rest = levels_from m t (c + 1) in
          let here : level.number ∷ rest ≡ levels_from (suc m) t c = ap (λ (a : Entry). a.number ∷ rest) w.level_is ∙ sym (levels_more t c m (sym kind_is ∙ k)) in
          record {
            most = m;
            enough = omega arith;
            level_is = q;
            same = emits_length _ out p out' p' h ∙ w.same;
            stored = λ x. h.stored (row rest x) ∙ ap (λ (l : List ℕ). sets out p (row l x)) here ∙ s x;
            after = λ x. h.after (row rest x) ∙ ap (λ (l : List ℕ). capped (p + length (row l x))) here ∙ b x;
          }

  pub levels_end : (level.kind ≡ 1 → ⊥) → Emits (print_row (dimension_row 0 (levels_at t e))) old at out p
  levels_end k =
      let none : [] ≡ levels_from w.most t c = sym (levels_none t c w.most (λ z. k (kind_is ∙ z))) in
      record {
        stored = λ x. ap (λ (l : List ℕ). sets out p (row l x)) none ∙ w.stored x;
        after = λ x. ap (λ (l : List ℕ). capped (p + length (row l x))) none ∙ w.after x;
      }

-- ---- `close_field`
module _ (t : List ℕ) (e : ℕ) (x : Entry) (q : x ≡ entry_at t e) (old : List ℕ) (at : ℕ) (out : List ℕ) (p : ℕ) where
  kind_of_lem : x.kind ≡ (entry_at t e).kind
  kind_of_lem = ap (λ (a : Entry). a.kind) q

  pub sub_none : (x.kind ≡ 1 → ⊥) → Emits (λ z. 41 ∷ 44 ∷ 32 ∷ z) old at out p → Emits (λ z. sub_text (levels_at t e) (41 ∷ 44 ∷ 32 ∷ z)) old at out p
  sub_none k h =
      subst (λ (l : List ℕ). Emits (λ z. sub_text l (41 ∷ 44 ∷ 32 ∷ z)) old at out p) (sym (levels_none t e (length t) (λ z. k (kind_of_lem ∙ z)))) h

  sub_of : (n : ℕ) (ns m₁ : List ℕ) (p₁ : ℕ) (m₂ : List ℕ) (p₂ : ℕ) → Emits (λ z. 44 ∷ 32 ∷ 40 ∷ z) old at m₁ p₁ → Emits (row (n ∷ ns)) m₁ p₁ m₂ p₂
      → Emits (λ z. 41 ∷ 41 ∷ 44 ∷ 32 ∷ z) m₂ p₂ out p → Emits (λ z. sub_text (n ∷ ns) (41 ∷ 44 ∷ 32 ∷ z)) old at out p
  sub_of n ns m₁ p₁ m₂ p₂ a b c =
      emits_then (λ z. 44 ∷ 32 ∷ 40 ∷ row (n ∷ ns) z) (λ z. 41 ∷ 41 ∷ 44 ∷ 32 ∷ z) old at m₂ p₂ out p
      (emits_then (λ z. 44 ∷ 32 ∷ 40 ∷ z) (row (n ∷ ns)) old at m₁ p₁ m₂ p₂ a b) c

  pub sub_some : x.kind ≡ 1 → (m₁ : List ℕ) (p₁ : ℕ) (m₂ : List ℕ) (p₂ : ℕ) → Emits (λ z. 44 ∷ 32 ∷ 40 ∷ z) old at m₁ p₁
      → Emits (print_row (dimension_row 0 (levels_at t e))) m₁ p₁ m₂ p₂ → Emits (λ z. 41 ∷ 41 ∷ 44 ∷ 32 ∷ z) m₂ p₂ out p
      → Emits (λ z. sub_text (levels_at t e) (41 ∷ 44 ∷ 32 ∷ z)) old at out p
  sub_some k m₁ p₁ m₂ p₂ a b c = go (length t) (level_inside t e (sym kind_of_lem ∙ k)) b
    where
      go : (m : ℕ) → e < m → Emits (row (levels_from m t e)) m₁ p₁ m₂ p₂ → Emits (λ z. sub_text (levels_from m t e) (41 ∷ 44 ∷ 32 ∷ z)) old at out p
      go zero h r = absurd (omega arith)
      go (suc m) h r =
          let first = levels_more t e m (sym kind_of_lem ∙ k) in
          subst (λ (l : List ℕ). Emits (λ z. sub_text l (41 ∷ 44 ∷ 32 ∷ z)) old at out p) (sym first)
          (sub_of (entry_at t e).number (levels_from m t (e + 1)) m₁ p₁ m₂ p₂ a (subst (λ (l : List ℕ). Emits (row l) m₁ p₁ m₂ p₂) first r) c)
