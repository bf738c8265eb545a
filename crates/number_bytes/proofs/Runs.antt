-- Runs of bytes from either end: a byte counted from the other end, and what is left of a number as its bytes are taken one by one from the most significant on.
use Rattle.std.specs.Prelude.{None, Some, Option}
use Prim.Native.Nat.{ℕ, zero, suc, ◌+◌, ◌*◌, ◌-◌, ◌/◌, ◌%◌, ◌^◌, ◌≤◌, ◌<◌}
use native.Mathlib.Omega.{arith}
use mathlib.Core.Path.{◌≡◌, refl, sym, ap, ◌∙◌}
use mathlib.Core.Logic.{◌⊎◌, ⊎_elim}
use mathlib.Core.List.{List, [], ◌∷◌, reverse, reverse-cons, reverse-reverse}
use lib.ListN.{length, get_or, drop, length-reverse, get_or-append, get_or-eq_default}
use lib.Seq.{drop-cons, drop-length, get_or_at}
use native.Mathlib.Nat.{pow-suc, pow-le-pow_right, lt_of_lt_of_le, div-div-eq-div-mul}
use Rattle.std.specs.Int.{w64, to_le_bytes, bytes_low_first, byte_at as le_byte}
use Rattle.counts.specs.Number.{number}
use Rattle.counts.proofs.Sides.{lt_or_ge}
use Rattle.counts.proofs.Fits.{number_is, number_over}
use Rattle.number_bytes.specs.Numbers.{little, least_bytes, byte_of, least_first, in_order, out_order}
use Rattle.type_letters.specs.declared.Endianness.{Endianness}
use Rattle.type_letters.specs.declared.Endianness.TheVariants.{Little, Big, Irrelevant}

-- ---- from the other end
pub get_d_reverse : (l : List ℕ) (i j : ℕ) → i + j + 1 ≡ length l → get_or (reverse l) i 0 ≡ get_or l j 0
get_d_reverse [] i j e = absurd (omega arith)
get_d_reverse (a ∷ l) i zero e = ap (λ (m : List ℕ). get_or m i 0) (reverse-cons a l) ∙ get_or_at (reverse l) a [] 0 i (length-reverse l ∙ omega arith)
get_d_reverse (a ∷ l) i (suc j) e =
    ap (λ (m : List ℕ). get_or m i 0) (reverse-cons a l)
    ∙ get_or-append (reverse l) (a ∷ []) 0 i (rw length-reverse (omega arith))
    ∙ get_d_reverse l i j (omega arith)

pub length_least : (o : Endianness) (l : List ℕ) → length (least_first o l) ≡ length l
length_least Little l = refl
length_least Big l = length-reverse l
length_least Irrelevant l = refl

pub least_least : (o : Endianness) (l : List ℕ) → least_first o (least_first o l) ≡ l
least_least Little l = refl
least_least Big l = reverse-reverse l
least_least Irrelevant l = refl

-- ---- a number's bytes
pub length_bytes : (w n : ℕ) → length (least_bytes w n) ≡ w
length_bytes zero n = refl
length_bytes (suc w) n = ap suc (length_bytes w (n / 256))

pub length_out : (o : Endianness) (w n : ℕ) → length (out_order o w n) ≡ w
unfolding out_order
length_out o w n = length_least o (least_bytes w n) ∙ length_bytes w n

pub byte_at : (w k n : ℕ) → k < w → get_or (least_bytes w n) k 0 ≡ byte_of k n
byte_at zero k n h = absurd (omega arith)
byte_at (suc w) zero n h = refl
byte_at (suc w) (suc k) n h = byte_at w k (n / 256) (omega arith)

-- `to_le_bytes` of the library
unfolded : (i n : ℕ) → le_byte i n ≡ n / 256 ^ i % 256
unfolded zero n = omega arith
unfolded (suc i) n = refl

low_bytes : (i k n : ℕ) → bytes_low_first i k n ≡ least_bytes k (n / 256 ^ i)
low_bytes i zero n = refl
low_bytes i (suc k) n =
    let less : n / 256 ^ suc i ≡ n / 256 ^ i / 256 = ap (λ (p : ℕ). n / p) (pow-suc 256 i) ∙ sym (div-div-eq-div-mul n (256 ^ i) 256) in
    rw (unfolded i n, low_bytes (suc i) k n, less)

byte_past : (k n : ℕ) → n < 256 ^ k → byte_of k n ≡ 0
byte_past zero n h = omega arith
byte_past (suc k) n h = byte_past k (n / 256) (omega (arith, h, pow-suc 256 k))

pub eight_bytes : (k n : ℕ) → n < 2 ^ 64 → get_or (to_le_bytes w64 n) k 0 ≡ byte_of k n
eight_bytes k n h =
    let one : n / 1 ≡ n = omega arith in
    let same : to_le_bytes w64 n ≡ least_bytes 8 n = low_bytes 0 8 n ∙ ap (λ (m : ℕ). least_bytes 8 m) one in
    ap (λ (l : List ℕ). get_or l k 0) same
    ∙ ⊎_elim
    (λ lt. byte_at 8 k n lt)
    (λ ge. get_or-eq_default (least_bytes 8 n) 0 ge ∙ sym (byte_past k n (lt_of_lt_of_le h (pow-le-pow_right {n = 256} (omega arith) {i = 8} {j = k} ge))))
    (lt_or_ge k 8)

-- which byte of a number is at place i of the w bytes that it is written in
abbrev pub weight : Endianness → (w i : ℕ) → ℕ
weight Little w i = i
weight Big w i = w - 1 - i
weight Irrelevant w i = i

pub weight_front : (o : Endianness) (w i : ℕ) → (o ≡ Little) ⊎ (o ≡ Irrelevant) → weight o w i ≡ i
weight_front o w i h = ⊎_elim (λ e. ap (λ (x : Endianness). weight x w i) e) (λ e. ap (λ (x : Endianness). weight x w i) e) h

pub weight_back : (o : Endianness) (w i : ℕ) → o ≡ Big → weight o w i ≡ w - 1 - i
weight_back o w i h = ap (λ (x : Endianness). weight x w i) h

pub out_at : (o : Endianness) (w n i : ℕ) → i < w → byte_of (weight o w i) n ≡ get_or (out_order o w n) i 0
unfolding out_order
out_at Little w n i h = sym (byte_at w i n h)
out_at Big w n i h =
    sym (get_d_reverse (least_bytes w n) i (w - 1 - i) (rw length_bytes (omega arith)) ∙ byte_at w (w - 1 - i) n (omega arith))
out_at Irrelevant w n i h = sym (byte_at w i n h)

-- which byte of a run is byte i of its number
pub in_at : (o : Endianness) (run : List ℕ) (i : ℕ) → i < length run → get_or run (weight o (length run) i) 0 ≡ get_or (least_first o run) i 0
in_at Little run i h = refl
in_at Big run i h = sym (get_d_reverse run i (length run - 1 - i) (omega arith))
in_at Irrelevant run i h = refl

-- ---- taken from the greatest on
pub record Reading (l : List ℕ) (k n : ℕ) : Type 0 where
  pub inside : k ≤ length l
  pub is : n ≡ little (drop k l)
  pub fits : n < 2 ^ 64

pub reading_start : (l : List ℕ) (k : ℕ) → k ≡ length l → Reading l k 0
reading_start l k e = record { inside = omega arith; is = rw (e, drop-length l); fits = omega arith }

pub reading_more : (l : List ℕ) (k n b : ℕ) → 0 < k → Reading l k n → b ≡ get_or l (k - 1) 0 → b + 256 * n < 2 ^ 64 → Reading l (k - 1) (b + 256 * n)
reading_more l zero n b h r e f = absurd (omega arith)
reading_more l (suc k) n b h r e f =
    let e' : suc k - 1 ≡ k = omega arith in
    let at : b ≡ get_or l k 0 = rw e' at e in
    let lt : k < length l = omega (arith, r.inside) in
    rw e' (record { inside = omega arith; is = rw (drop-cons l k 0 lt) (cc (at, r.is)); fits = f })

little_drop : (l : List ℕ) (k : ℕ) → little (drop k l) ≤ little l
little_drop [] zero = omega arith
little_drop [] (suc k) = omega arith
little_drop (b ∷ l) zero = omega arith
little_drop (b ∷ l) (suc k) = omega (arith, little_drop l k)

little_more : (l : List ℕ) (k : ℕ) → 0 < k → k ≤ length l → 256 * little (drop k l) ≤ little l
little_more [] zero z h = absurd (omega arith)
little_more [] (suc k) z h = absurd (omega arith)
little_more (b ∷ l) zero z h = absurd (omega arith)
little_more (b ∷ l) (suc k) z h = omega (arith, little_drop l k)

-- 256 times the number so far is over already, and so is the whole
pub reading_over : (l : List ℕ) (k n : ℕ) → 0 < k → Reading l k n → 0xFFFFFFFFFFFFFF < n → None ≡ number (little l)
reading_over l k n z r h = sym (number_over (little l) (omega (arith, little_more l k z r.inside, r.is)))

pub reading_end : (l : List ℕ) (k n : ℕ) → k ≤ 0 → Reading l k n → Some n ≡ number (little l)
reading_end l zero n z r = sym (ap (λ (m : ℕ). number m) (sym r.is) ∙ number_is n r.fits)
reading_end l (suc k) n z r = absurd (omega arith)

-- what is known of the bytes with the least significant first is known of the run
pub judged : (o : Endianness) (run : List ℕ) {r : Option ℕ} → r ≡ number (little (least_first o run)) → r ≡ number (in_order o run)
unfolding in_order
judged o run e = e
