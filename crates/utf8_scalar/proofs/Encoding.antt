-- `encode` by its four rows, and what all of them have: a lead and then bytes that are not ASCII; of a scalar value all are bytes.
use Prim.Native.Nat.{ℕ, zero, suc, ◌+◌, ◌/◌, ◌%◌, ◌≤◌, ◌<◌}
use mathlib.Core.Path.{◌≡◌}
use mathlib.Core.Bool.{true}
use mathlib.Core.Logic.{⊎_elim}
use mathlib.Core.List.{List, [], ◌∷◌}
use native.Mathlib.Omega.{arith}
use native.Mathlib.Nat.{not-suc-le-zero, le_of_suc-le-suc, mod-lt}
use borrow.Author.Tests.{lt-ltb, le-ltb}
use lib.ListN.{length, get_or}
use Rattle.counts.specs.Lists.{AllBytes}
use Rattle.counts.proofs.Sides.{lt_or_ge}
use Rattle.utf8_scalar.specs.Scalar.{is_scalar}
use Rattle.utf8_scalar.specs.Encode.{encode}
use Rattle.utf8_scalar.proofs.Scalars.{scalar_below}

pub row_one : (c : ℕ) → c < 0x80 → encode c ≡ c ∷ []
unfolding encode
row_one c h = simp (encode, lt-ltb c 0x80 h)

pub row_two : (c : ℕ) → 0x80 ≤ c → c < 0x800 → encode c ≡ (0xC0 + c / 0x40) ∷ (0x80 + c % 0x40) ∷ []
unfolding encode
row_two c h k = simp (encode, le-ltb c 0x80 h, lt-ltb c 0x800 k)

pub row_three : (c : ℕ) → 0x800 ≤ c → c < 0x10000 → encode c ≡ (0xE0 + c / 0x1000) ∷ (0x80 + c / 0x40 % 0x40) ∷ (0x80 + c % 0x40) ∷ []
unfolding encode
row_three c h k =
    let l : 0x80 ≤ c = omega arith in
    simp (encode, le-ltb c 0x80 l, le-ltb c 0x800 h, lt-ltb c 0x10000 k)

pub row_four : (c : ℕ) → 0x10000 ≤ c → encode c ≡ (0xF0 + c / 0x40000) ∷ (0x80 + c / 0x1000 % 0x40) ∷ (0x80 + c / 0x40 % 0x40) ∷ (0x80 + c % 0x40) ∷ []
unfolding encode
row_four c h =
    let l : 0x80 ≤ c = omega arith in
    let m : 0x800 ≤ c = omega arith in
    simp (encode, le-ltb c 0x80 l, le-ltb c 0x800 m, le-ltb c 0x10000 h)

-- ---- an encoding is a lead and trailing bytes

abbrev Trailing : List ℕ → Type 0
Trailing [] = Unit
Trailing (b ∷ bytes) = (0x80 ≤ b) × Trailing bytes

record Led (bytes : List ℕ) : Type 0 where
  lead : ℕ
  trail : List ℕ
  whole : bytes ≡ lead ∷ trail
  trailing : Trailing trail

led : (c : ℕ) → Led (encode c)
led c =
    ⊎_elim
    (λ h. record { lead = _; trail = _; whole = row_one c h; trailing = tt })
    (λ h. ⊎_elim
    (λ k. record { lead = _; trail = _; whole = row_two c h k; trailing = (omega arith, tt) })
    (λ k. ⊎_elim
    (λ l. record { lead = _; trail = _; whole = row_three c k l; trailing = (omega arith, (omega arith, tt)) })
    (λ l. record { lead = _; trail = _; whole = row_four c l; trailing = (omega arith, (omega arith, (omega arith, tt))) })
    (lt_or_ge c 0x10000))
    (lt_or_ge c 0x800))
    (lt_or_ge c 0x80)

-- no encoding is empty
pub encode_length : (c : ℕ) → 0 < length (encode c)
encode_length c = rw (led c).whole (omega arith)

-- and no byte but its first is ASCII
pub encode_trailing : (c i : ℕ) → 0 < i → i < length (encode c) → 0x80 ≤ get_or (encode c) i 0
encode_trailing c zero h k = absurd (not-suc-le-zero h)
encode_trailing c (suc i) h k = rw (led c).whole (go (led c).trail (led c).trailing i (le_of_suc-le-suc (rw (led c).whole at k)))
  where
    go : (bytes : List ℕ) → Trailing bytes → (i : ℕ) → i < length bytes → 0x80 ≤ get_or bytes i 0
    go [] t i h = absurd (not-suc-le-zero h)
    go (b ∷ bytes) t zero h = t.0
    go (b ∷ bytes) t (suc i) h = go bytes t.1 i (le_of_suc-le-suc h)

-- ---- each is a byte
group : (n : ℕ) → 0x80 + n % 0x40 < 256
group n = let m : n % 0x40 < 0x40 = mod-lt n (omega arith) in omega (arith, m)

pub encode_bytes : (c : ℕ) → is_scalar c ≡ true → AllBytes (encode c)
encode_bytes c s =
    let top = scalar_below c s in
    ⊎_elim
    (λ h. rw (row_one c h) (omega arith, tt))
    (λ h. ⊎_elim
    (λ k. rw (row_two c h k) (omega arith, (group c, tt)))
    (λ k. ⊎_elim
    (λ l. rw (row_three c k l) (omega arith, (group (c / 0x40), (group c, tt))))
    (λ l. rw (row_four c l) (omega (arith, top), (group (c / 0x1000), (group (c / 0x40), (group c, tt)))))
    (lt_or_ge c 0x10000))
    (lt_or_ge c 0x800))
    (lt_or_ge c 0x80)
