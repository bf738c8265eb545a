-- A feeder's numbers, as the code reads and writes them: what its tests and loops have in hand.
use Prim.Native.Nat.{ℕ, zero, suc, ◌+◌, ◌%◌, ◌<◌, ◌≤◌}
use native.Mathlib.Omega.{arith}
use native.Mathlib.Nat.{zero-add}
use mathlib.Core.Path.{◌≡◌, refl, ap, ◌∙◌, subst}
use mathlib.Core.List.{List, [], ◌∷◌, ◌++◌, append_assoc, append-nil}
use mathlib.Core.Bool.{true, false, ◌&&◌}
use lib.Dec.{eqb, leb}
use lib.ListN.{length, get_or, take, drop, set, drop_of_length-le}
use lib.Seq.{length-take-le, take_all, take_at, take-suc-set}
use borrow.Author.Tests.{eq-eqb, ne_eqb, leb-true, eqb-true}
use Rattle.counts.specs.Outcome.{gives, refused, each}
use Rattle.counts.proofs.Alike.{and_right, or_elim}
use Rattle.record.specs.Prefix.{Version, version_of}
use Rattle.dtype.specs.declared.Order.{Order}
use Rattle.header.specs.Reads.{HeaderInfo}
use Rattle.header_feed.specs.Feeds.{Progress, need_more, outcome}
use Rattle.header_feed.proofs.Copies.{Copying, copying_length, copying_next, copying_end}
use Rattle.npy_codes.specs.Codes.{order_for}
use Rattle.npy_codes.specs.Feeders.{saying_numbers, low_bytes, head_for, header_for, saying}
use Rattle.refusal.specs.Numbers.{is_refusal}

-- ---- what the numbers say
-- the header whose values are the last six numbers
abbrev pub header_at : List ℕ → Version → Order → HeaderInfo
header_at ns v o = record { version = v; info = record { order = o; rank = get_or ns 16 0; entries = get_or ns 17 0; names = get_or ns 18 0 }; data_start = get_or ns 19 0 }

module _ (ns : List ℕ) where
  pub header_at_lem : (v : Version) (o : Order) → gives v ≡ version_of (get_or ns 14 0) 0 → gives o ≡ order_for (get_or ns 15 0) → header_for ns ≡ gives (header_at ns v o)
  unfolding header_for
  header_at_lem v o a b = rw (← a, ← b)

  pub no_order : (v : Version) (n : ℕ) → gives v ≡ version_of (get_or ns 14 0) 0 → refused n ≡ order_for (get_or ns 15 0) → header_for ns ≡ refused 27
  unfolding header_for
  no_order v n a b = rw (← a, ← b)

  pub no_version : (n : ℕ) → refused n ≡ version_of (get_or ns 14 0) 0 → header_for ns ≡ refused 27
  unfolding header_for
  no_version n a = rw (← a)

  pub says_more : get_or ns 13 0 ≡ 0 → saying ns ≡ gives need_more
  unfolding saying
  says_more e = rw (eq-eqb (get_or ns 13 0) 0 e)

  pub says_header : get_or ns 13 0 ≡ 255 → saying ns ≡ each (λ h. outcome (gives h)) (header_for ns)
  unfolding saying
  says_header e = rw (ne_eqb (get_or ns 13 0) 0 (λ z. omega (arith, z)), eq-eqb (get_or ns 13 0) 255 e)

  pub says_refusal : (get_or ns 13 0 ≡ 0 → ⊥) → (get_or ns 13 0 ≡ 255 → ⊥) → is_refusal (get_or ns 13 0) ≡ true → saying ns ≡ gives (outcome (refused (get_or ns 13 0)))
  unfolding saying
  says_refusal a b e = rw (ne_eqb (get_or ns 13 0) 0 a, ne_eqb (get_or ns 13 0) 255 b, e)

  pub says_none : (get_or ns 13 0 ≡ 0 → ⊥) → (get_or ns 13 0 ≡ 255 → ⊥) → is_refusal (get_or ns 13 0) ≡ false → saying ns ≡ refused 27
  unfolding saying
  says_none a b e = rw (ne_eqb (get_or ns 13 0) 0 a, ne_eqb (get_or ns 13 0) 255 b, e)

pub refusal_small : (n : ℕ) → is_refusal n ≡ true → n ≤ 36
refusal_small n e =
    or_elim (leb 1 n && leb n 32) (eqb n 36) e (λ a. omega (arith, leb-true n 32 (and_right (leb 1 n) (leb n 32) a))) (λ b. omega (arith, eqb-true n 36 b))

-- ---- the loops
pub saying_length : (p : Progress) → length (saying_numbers p) ≡ 7
saying_length need_more = refl
saying_length (outcome (gives h)) = refl
saying_length (outcome (refused n)) = refl

pub low_at : (ns : List ℕ) (i : ℕ) → get_or (low_bytes ns) i 0 ≡ get_or ns i 0 % 256
low_at [] i = refl
low_at (n ∷ ns) zero = refl
low_at (n ∷ ns) (suc i) = low_at ns i

pub low_length : (ns : List ℕ) → length (low_bytes ns) ≡ length ns
low_length [] = refl
low_length (n ∷ ns) = ap suc (low_length ns)

pub low_take : (k : ℕ) (ns : List ℕ) → take k (low_bytes ns) ≡ low_bytes (take k ns)
low_take zero ns = refl
low_take (suc k) [] = refl
low_take (suc k) (n ∷ ns) = ap (λ (l : List ℕ). n % 256 ∷ l) (low_take k ns)

pub low_next : (d ns : List ℕ) (i : ℕ) (out : List ℕ) → Copying d 0 (low_bytes ns) 12 i out → i < 12 → Copying d 0 (low_bytes ns) 12 (i + 1) (set out i (get_or ns i 0 % 256))
low_next d ns i out c l = subst (λ (x : ℕ). Copying d 0 (low_bytes ns) 12 (i + 1) (set out i x)) (low_at ns i) (rw zero-add at (copying_next d 0 (low_bytes ns) 12 i out c l))

pub low_end : (d ns : List ℕ) (i : ℕ) (out : List ℕ) → length d ≡ 12 → Copying d 0 (low_bytes ns) 12 i out → 12 ≤ i → out ≡ head_for ns
low_end d ns i out e c l =
    copying_end d 0 (low_bytes ns) 12 i out c l ∙ ap (λ (x : List ℕ). take 12 (low_bytes ns) ++ x) (drop_of_length-le d {i = 12} (omega (arith, e))) ∙ append-nil (take 12 (low_bytes ns)) ∙ low_take 12 ns

pub head_next : (d head : List ℕ) (i : ℕ) (out : List ℕ) → Copying d 0 head 12 i out → i < 12 → Copying d 0 head 12 (i + 1) (set out i (get_or head i 0))
head_next d head i out c l = rw zero-add at (copying_next d 0 head 12 i out c l)

-- the head, then the count
pub head_end : (d head : List ℕ) (taken i : ℕ) (out : List ℕ) → length d ≡ 20 → length head ≡ 12 → Copying d 0 head 12 i out → 12 ≤ i → take 13 (set out 12 taken) ≡ head ++ taken ∷ []
head_end d head taken i out e f c l =
    take-suc-set out 12 taken (omega (arith, copying_length d 0 head 12 i out c))
    ∙ ap (λ (x : List ℕ). take 12 x ++ (taken ∷ [])) (copying_end d 0 head 12 i out c l)
    ∙ ap (λ (x : List ℕ). x ++ (taken ∷ [])) (take_at (take 12 head) (drop 12 d) 12 (length-take-le 12 head (omega (arith, f))) ∙ take_all 12 head (omega (arith, f)))

-- .. then what is said
pub saying_end : (d says : List ℕ) (i : ℕ) (out : List ℕ) → length d ≡ 20 → length says ≡ 7 → Copying d 13 says 7 i out → 7 ≤ i → out ≡ take 13 d ++ says
saying_end d says i out e f c l =
    copying_end d 13 says 7 i out c l ∙ append_assoc (take 13 d) (take 7 says) (drop 20 d) ∙ ap (λ (x : List ℕ). take 13 d ++ x)
    (ap (λ (x : List ℕ). take 7 says ++ x) (drop_of_length-le d {i = 20} (omega (arith, e))) ∙ append-nil (take 7 says) ∙ take_all 7 says (omega (arith, f)))
