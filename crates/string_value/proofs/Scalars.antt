-- Code points in a run of bytes: the one of the first four bytes, then those of the rest. While a run is checked, `pre` is what was found so far, and the whole is `pre`
-- followed by what the rest gives; at the end nothing is left.
use Prim.Native.Nat.{ℕ, zero, suc, ◌+◌, ◌*◌, ◌<◌, ◌≤◌}
use native.Mathlib.Omega.{arith}
use mathlib.Core.Path.{◌≡◌, refl, sym, ap, ◌∙◌}
use mathlib.Core.Bool.{true, false}
use mathlib.Core.List.{List, [], ◌∷◌, ◌++◌, append_assoc, append-nil}
use lib.ListN.{length, get_or, take, drop, length-append, length-drop, drop_of_length-le}
use lib.Seq.{drop-drop}
use borrow.Author.Tests.{lt-ltb, le-ltb}
use Rattle.counts.specs.Outcome.{Outcome, gives, refused, then, each}
use Rattle.counts.proofs.Apart.{gives_refused}
use Rattle.number_bytes.specs.Numbers.{in_order}
use Rattle.utf8_scalar.specs.Scalar.{is_scalar}
use Rattle.utf8_scalar.proofs.Scalars.{scalar_over}
use Rattle.type_letters.specs.declared.Endianness.{Endianness}
use Rattle.string_value.specs.Elements.{trimmed, scalar, point, points, found}
use Rattle.string_value.proofs.Trims.{trim_zero, trim_last}

-- ---- one code point
pub scalar_is : (c : ℕ) → is_scalar c ≡ true → scalar c ≡ gives c
unfolding scalar
scalar_is c h = rw (scalar, h)

pub scalar_bad : (c : ℕ) → is_scalar c ≡ false → scalar c ≡ refused 29
unfolding scalar
scalar_bad c h = rw (scalar, h)

pub point_short : (order : Endianness) (run : List ℕ) → length run < 4 → point order run ≡ refused 29
unfolding point
point_short order run h = rw (point, lt-ltb (length run) 4 h)

pub point_four : (order : Endianness) (run : List ℕ) → 4 ≤ length run → point order run ≡ scalar (in_order order (take 4 run))
unfolding point
point_four order run h = rw (point, le-ltb (length run) 4 h)

-- ---- all of them
point_of_short : {B : Type 0} (order : Endianness) (run : List ℕ) {p : ℕ} → length run < 4 → point order run ≡ gives p → B
point_of_short order run lt e = gives_refused (sym e ∙ point_short order run lt)

pub point_step : (order : Endianness) (run : List ℕ) (p : ℕ) → point order run ≡ gives p
    → (4 ≤ length run) × (points order run ≡ each (λ (ps : List ℕ). p ∷ ps) (points order (drop 4 run)))
point_step order [] p e = point_of_short order [] (omega arith) e
point_step order (a ∷ []) p e = point_of_short order (a ∷ []) (omega arith) e
point_step order (a ∷ b ∷ []) p e = point_of_short order (a ∷ b ∷ []) (omega arith) e
point_step order (a ∷ b ∷ c ∷ []) p e = point_of_short order (a ∷ b ∷ c ∷ []) (omega arith) e
point_step order (a ∷ b ∷ c ∷ d ∷ run) p e = (
  omega arith,
  ap (λ (o : Outcome ℕ). then o (λ q. each (λ (ps : List ℕ). q ∷ ps) (points order run)))
      (sym (point_four order (a ∷ b ∷ c ∷ d ∷ run) (omega arith)) ∙ e),
)

pub point_bad : (order : Endianness) (run : List ℕ) → 0 < length run → point order run ≡ refused 29 → points order run ≡ refused 29
point_bad order [] h e = absurd (omega arith)
point_bad order (a ∷ []) h e = refl
point_bad order (a ∷ b ∷ []) h e = refl
point_bad order (a ∷ b ∷ c ∷ []) h e = refl
point_bad order (a ∷ b ∷ c ∷ d ∷ run) h e =
    ap (λ (o : Outcome ℕ). then o (λ q. each (λ (ps : List ℕ). q ∷ ps) (points order run)))
    (sym (point_four order (a ∷ b ∷ c ∷ d ∷ run) (omega arith)) ∙ e)

-- ---- a run checked up to `at`
pub record Judging (order : Endianness) (run : List ℕ) (at count kept : ℕ) : Type 0 where
  pub pre : List ℕ
  pub inside : at ≤ length run
  pub four : 4 * count ≡ at
  pub counted : count ≡ length pre
  pub left : kept ≡ length (trimmed pre)
  pub whole : points order run ≡ each (λ (ps : List ℕ). pre ++ ps) (points order (drop at run))

each_same : (o : Outcome (List ℕ)) → o ≡ each (λ (ps : List ℕ). [] ++ ps) o
each_same (gives ps) = refl
each_same (refused n) = refl

pub judging_start : (order : Endianness) (run : List ℕ) → Judging order run 0 0 0
judging_start order run =
    record { pre = []; inside = omega arith; four = omega arith; counted = refl; left = refl; whole = each_same (points order run) }

each_snoc : (pre : List ℕ) (p : ℕ) (o : Outcome (List ℕ)) → each (λ (ps : List ℕ). pre ++ ps) (each (λ (ps : List ℕ). p ∷ ps) o) ≡ each (λ (ps : List ℕ). (pre ++ p ∷ []) ++ ps) o
each_snoc pre p (gives ps) = ap gives (sym (append_assoc pre (p ∷ []) ps))
each_snoc pre p (refused n) = refl

module _ (order : Endianness) (run : List ℕ) (at count kept p : ℕ) (j : Judging order run at count kept) (e : point order (drop at run) ≡ gives p) where
  pub judging_inside : at + 4 ≤ length run
  judging_inside = omega (arith, (point_step order (drop at run) p e).0, length-drop at run)

  next : (kept' : ℕ) → kept' ≡ length (trimmed (j.pre ++ p ∷ [])) → Judging order run (at + 4) (count + 1) kept'
  next kept' k =
      record {
        pre = j.pre ++ p ∷ [];
        inside = judging_inside;
        four = omega (arith, j.four);
        counted = omega (arith, j.counted, length-append j.pre (p ∷ []));
        left = k;
        whole =
            j.whole
            ∙ ap (λ (o : Outcome (List ℕ)). each (λ (ps : List ℕ). j.pre ++ ps) o) (point_step order (drop at run) p e).1
            ∙ each_snoc j.pre p (points order (drop 4 (drop at run)))
            ∙ ap (λ (l : List ℕ). each (λ (ps : List ℕ). (j.pre ++ p ∷ []) ++ ps) (points order l)) (drop-drop 4 at run);
      }

  pub judging_some : (p ≡ 0 → ⊥) → Judging order run (at + 4) (count + 1) (count + 1)
  judging_some h =
      next (count + 1)
      (omega (arith, j.counted, length-append j.pre (p ∷ []), ap (λ (l : List ℕ). length l) (trim_last j.pre p h)))

  pub judging_zero : p ≡ 0 → Judging order run (at + 4) (count + 1) kept
  judging_zero h = next kept (j.left ∙ ap (λ (l : List ℕ). length l) (sym (ap (λ (b : ℕ). trimmed (j.pre ++ b ∷ [])) h ∙ trim_zero j.pre)))

pub judging_bad : (order : Endianness) (run : List ℕ) (at count kept : ℕ) → Judging order run at count kept → at < length run → point order (drop at run) ≡ refused 29
    → refused 29 ≡ each (λ (ps : List ℕ). length (trimmed ps)) (points order run)
judging_bad order run at count kept j lt e =
    let bad = j.whole ∙ ap (λ (o : Outcome (List ℕ)). each (λ (ps : List ℕ). j.pre ++ ps) o) (point_bad order (drop at run) (rw length-drop (omega arith)) e) in
    sym (ap (λ (o : Outcome (List ℕ)). each (λ (ps : List ℕ). length (trimmed ps)) o) bad)

pub judging_end : (order : Endianness) (run : List ℕ) (at count kept : ℕ) → Judging order run at count kept → length run ≤ at
    → gives kept ≡ each (λ (ps : List ℕ). length (trimmed ps)) (points order run)
judging_end order run at count kept j ge =
    let all = j.whole ∙ ap (λ (l : List ℕ). each (λ (ps : List ℕ). j.pre ++ ps) (points order l)) (drop_of_length-le run ge) ∙ ap gives (append-nil j.pre) in
    sym (ap (λ (o : Outcome (List ℕ)). each (λ (ps : List ℕ). length (trimmed ps)) o) all ∙ ap gives (sym j.left))

-- ---- a code point of a run that was checked
pub record At (order : Endianness) (run : List ℕ) (k : ℕ) : Type 0 where
  pub inside : 4 * k + 4 ≤ length run
  pub is : point order (drop (4 * k) run) ≡ gives (get_or (found (points order run)) k 0)

module _ (order : Endianness) (a b c d : ℕ) (run : List ℕ) where
  at_given : (k p : ℕ) (ps : List ℕ) → point order (a ∷ b ∷ c ∷ d ∷ run) ≡ gives p → points order run ≡ gives ps → k < length (found (points order (a ∷ b ∷ c ∷ d ∷ run)))
      → ((j : ℕ) → j < length (found (points order run)) → At order run j) → At order (a ∷ b ∷ c ∷ d ∷ run) k
  at_given zero p ps e r h ih =
      let w = (point_step order (a ∷ b ∷ c ∷ d ∷ run) p e).1 ∙ ap (λ (o : Outcome (List ℕ)). each (λ (qs : List ℕ). p ∷ qs) o) r in
      record { inside = omega arith; is = e ∙ ap (λ (o : Outcome (List ℕ)). gives (get_or (found o) 0 0)) (sym w) }
  at_given (suc j) p ps e r h ih =
      let w = (point_step order (a ∷ b ∷ c ∷ d ∷ run) p e).1 ∙ ap (λ (o : Outcome (List ℕ)). each (λ (qs : List ℕ). p ∷ qs) o) r in
      let f = ap (λ (o : Outcome (List ℕ)). found o) r in
      let there = ih j (omega (arith, ap (λ (o : Outcome (List ℕ)). length (found o)) w, ap (λ (l : List ℕ). length l) f)) in
      let four : 4 * suc j ≡ suc (suc (suc (suc (4 * j)))) = omega arith in
      record {
        inside = omega (arith, there.inside);
        is = rw four (there.is ∙ ap (λ (l : List ℕ). gives (get_or l j 0)) f ∙ ap (λ (o : Outcome (List ℕ)). gives (get_or (found o) (suc j) 0)) (sym w));
      }

  at_four : (k : ℕ) → k < length (found (points order (a ∷ b ∷ c ∷ d ∷ run))) → ((j : ℕ) → j < length (found (points order run)) → At order run j)
      → At order (a ∷ b ∷ c ∷ d ∷ run) k
  at_four k h ih = by_point (point order (a ∷ b ∷ c ∷ d ∷ run)) refl (points order run) refl
    where
      by_point : (o : Outcome ℕ) → point order (a ∷ b ∷ c ∷ d ∷ run) ≡ o → (rest : Outcome (List ℕ)) → points order run ≡ rest → At order (a ∷ b ∷ c ∷ d ∷ run) k
      by_point (gives p) e (gives ps) r = at_given k p ps e r h ih
      by_point (gives p) e (refused n) r =
          let w = (point_step order (a ∷ b ∷ c ∷ d ∷ run) p e).1 ∙ ap (λ (o : Outcome (List ℕ)). each (λ (qs : List ℕ). p ∷ qs) o) r in
          absurd (omega (arith, ap (λ (o : Outcome (List ℕ)). length (found o)) w))
      by_point (refused n) e rest r =
          let w = ap (λ (o : Outcome ℕ). then o (λ q. each (λ (ps : List ℕ). q ∷ ps) (points order run))) (sym (point_four order (a ∷ b ∷ c ∷ d ∷ run) (omega arith)) ∙ e) in
          absurd (omega (arith, ap (λ (o : Outcome (List ℕ)). length (found o)) w))

pub found_at : (order : Endianness) (run : List ℕ) (k : ℕ) → k < length (found (points order run)) → At order run k
found_at order [] k h = absurd (omega arith)
found_at order (a ∷ []) k h = absurd (omega arith)
found_at order (a ∷ b ∷ []) k h = absurd (omega arith)
found_at order (a ∷ b ∷ c ∷ []) k h = absurd (omega arith)
found_at order (a ∷ b ∷ c ∷ d ∷ run) k h = at_four order a b c d run k h (λ j l. found_at order run j l)

-- ---- four bytes of a run, as they are read
module _ (order : Endianness) (run : List ℕ) (at w : ℕ) (four : w ≡ 4) (inside : at + 4 ≤ length run) where
  read_four : scalar (in_order order (take w (drop at run))) ≡ point order (drop at run)
  read_four = ap (λ (n : ℕ). scalar (in_order order (take n (drop at run)))) four ∙ sym (point_four order (drop at run) (rw length-drop (omega arith)))

  pub read_over : 0x110000 ≤ in_order order (take w (drop at run)) → refused 29 ≡ point order (drop at run)
  read_over h = sym (scalar_bad _ (scalar_over _ h)) ∙ read_four

  pub read_none : (n : ℕ) → in_order order (take w (drop at run)) ≡ n → is_scalar n ≡ false → refused 29 ≡ point order (drop at run)
  read_none n e s = sym (scalar_bad _ (ap (λ (m : ℕ). is_scalar m) e ∙ s)) ∙ read_four

  pub read_scalar : (n : ℕ) → in_order order (take w (drop at run)) ≡ n → is_scalar n ≡ true → gives n ≡ point order (drop at run)
  read_scalar n e s = sym (ap (λ (m : ℕ). scalar m) e ∙ scalar_is n s) ∙ read_four
