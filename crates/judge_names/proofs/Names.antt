-- Which of the three names a string is.
use Prim.Native.Nat.{ℕ, ◌+◌, ◌<◌, ◌≤◌}
use native.Mathlib.Omega.{arith}
use mathlib.Core.Path.{◌≡◌, refl, sym, ap, subst, ◌∙◌}
use mathlib.Core.List.{List}
use mathlib.Core.Bool.{Bool, true, false}
use lib.ListN.{length, take, drop, replicate}
use lib.Seq.{sets, sets-eq, take-append_seam}
use Rattle.counts.specs.Outcome.{gives, given}
use Rattle.counts.specs.Lists.{same}
use Rattle.counts.proofs.Alike.{same_equal}
use Rattle.record.specs.Dict.{key_order, key_shape, key_descr, is_the}
use Rattle.literal_escapes.specs.Strings.{Spelled, scanned}
use Rattle.literal_escapes.specs.declared.Scan.{Scan}
use Rattle.judge_names.specs.declared.Name as name
use Rattle.judge_names.specs.declared.Name.{Name}
use Rattle.judge_names.specs.Answer.{key_of, NameIs}
use Rattle.judge_names.proofs.Same.{same_lengths}

pub name_is : (r : Name) (w u : List ℕ) (b : Bool) → key_of r ≡ gives w → b ≡ same u w → b ≡ true → NameIs r (gives u)
name_is r w u b hw hb ht =
    let e : gives u ≡ key_of r = ap gives (same_equal u w (sym hb ∙ ht)) ∙ sym hw in
    record { of_string = ap given e; of_descr = ap (is_the key_descr) e; of_order = ap (is_the key_order) e; of_shape = ap (is_the key_shape) e }

pub name_none : (u : List ℕ) (a b d : Bool) → a ≡ same u key_descr → a ≡ false → b ≡ same u key_order → b ≡ false → d ≡ same u key_shape → d ≡ false → NameIs name.Name.Extra (gives u)
name_none u a b d ha fa hb fb hd fd = record { of_string = refl; of_descr = sym ha ∙ fa; of_order = sym hb ∙ fb; of_shape = sym hd ∙ fd }

-- a key was decoded to room for the longest of the three
module _ (u : Spelled) (s : Scan) (hs : s ≡ scanned u) where
  count : s.len ≡ length u.bytes
  count = ap (λ (r : Scan). r.len) hs

  -- one that is longer has the length of none
  pub name_long : 13 < s.len → NameIs name.Name.Extra (gives u.bytes)
  name_long lt =
      let other : (w : List ℕ) → length w ≤ 13 → same u.bytes w ≡ false = λ w le. same_lengths u.bytes w (λ e. omega (arith, count, e)) in
      name_none u.bytes _ _ _ refl (other key_descr (omega arith)) refl (other key_order (omega arith)) refl (other key_shape (omega arith))

  module _ (out : List ℕ) (ho : out ≡ sets (replicate 13 0) 0 u.bytes) (le : s.len ≤ 13) where
    stored : take s.len out ≡ u.bytes
    stored =
        ap (λ (n : ℕ). take n out) count ∙ ap (λ (l : List ℕ). take (length u.bytes) l) (ho ∙ sets-eq u.bytes (replicate 13 0) 0 (omega (arith, count))) ∙ take-append_seam u.bytes (drop (0 + length u.bytes) (replicate 13 0))

    pub name_fits : s.len ≡ length (take s.len out)
    name_fits = count ∙ sym (ap length stored)

    pub name_stored : (r : Name) → NameIs r (gives (take s.len out)) → NameIs r (gives u.bytes)
    name_stored r = subst (λ (l : List ℕ). NameIs r (gives l)) stored
