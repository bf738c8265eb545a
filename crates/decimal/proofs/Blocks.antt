-- Digits in blocks. A text with k digits at its front begins with a block of k digits, and the digits after it are the others; a number with the digits of a block
-- appended one after the other is the number shifted plus the block's. So `read_on` is the same before a digit or a block and after it.
use Rattle.std.specs.Prelude.{None, Some, Option}
use Prim.Native.Nat.{ℕ, zero, suc, ◌+◌, ◌*◌, ◌-◌, ◌/◌, ◌^◌, ◌<◌, ◌≤◌}
use native.Mathlib.Nat.{pow-suc, mul_assoc, mul-add, mul_comm, suc-mul, le-div_iff_mul-le, add_assoc, zero-add}
use native.Mathlib.Numerals.{add-one}
use native.Mathlib.Omega.{arith}
use mathlib.Core.Path.{◌≡◌, refl, sym, ap, ◌∙◌}
use mathlib.Core.List.{List, [], ◌∷◌, ◌++◌}
use mathlib.Core.Bool.{Bool, true, false, ◌&&◌, and_assoc, and-true}
use lib.Dec.{leb}
use lib.ListN.{length, get_or, take, drop, length-append, length-drop, drop_of_length-le}
use lib.Seq.{drop-cons, drop-drop, length-take-le}
use borrow.Author.Tests.{leb-true, leb-false, le-leb, lt-leb}
use Rattle.counts.specs.Number.{number}
use Rattle.counts.proofs.Fits.{number_is}
use Rattle.decimal.specs.Decimal.{is_digit, digits_of, decimal, decimal_from}
use Rattle.decimal.specs.Read.{digits_read, with_digit}
use Rattle.decimal.specs.Blocks.{all_digits, with_block, appended, read_on}
use Rattle.decimal.specs.declared.Digits.{Digits}
use Rattle.decimal.proofs.Runs.{digits_more, digits_inside, with_digit_number}

-- ---- whether each byte is a digit
-- the loop over a block: the bytes before i are digits where p says so
module _ (l : List ℕ) (i : ℕ) (p : Bool) where
  pub all_step : (p' t : Bool) → i < length l → t ≡ p && all_digits (drop i l) → p' ≡ p && is_digit (get_or l i 0) → t ≡ p' && all_digits (drop (i + 1) l)
  unfolding all_digits
  all_step p' t lt h e = h ∙ rw (add-one i, drop-cons l i 0 lt, e, and_assoc)

  pub all_end : (t : Bool) → length l ≤ i → t ≡ p && all_digits (drop i l) → p ≡ t
  unfolding all_digits
  all_end t le h = sym (h ∙ rw (drop_of_length-le l le, and-true))

one_more : (k m : ℕ) → leb k m ≡ leb (suc k) (suc m)
one_more k m = go (leb k m) refl
  where
    go : (t : Bool) → leb k m ≡ t → t ≡ leb (suc k) (suc m)
    go true e = sym (le-leb (suc k) (suc m) (omega (arith, leb-true k m e)))
    go false e = sym (lt-leb (suc k) (suc m) (omega (arith, leb-false k m e)))

-- a text whose first k bytes are digits begins with k digits, and the other way round
pub front_digits : (k : ℕ) (l : List ℕ) → k ≤ length l → all_digits (take k l) ≡ leb k (length (digits_of l))
unfolding all_digits digits_of
front_digits zero l le = sym (le-leb 0 (length (digits_of l)) (omega arith))
front_digits (suc k) [] le = absurd (omega arith)
front_digits (suc k) (b ∷ l) le = ap (λ (t : Bool). is_digit b && t) (front_digits k l (omega arith)) ∙ go (is_digit b) refl
  where
    go : (t : Bool) → is_digit b ≡ t → (t && leb k (length (digits_of l))) ≡ leb (suc k) (length (digits_of (b ∷ l)))
    go true e = rw (digits_of, e) (one_more k (length (digits_of l)))
    go false e = rw (digits_of, e) (sym (lt-leb (suc k) 0 (omega arith)))

-- the first k of a text's digits, and the others
front_split : (k : ℕ) (l : List ℕ) → k ≤ length (digits_of l) → digits_of l ≡ take k l ++ digits_of (drop k l)
unfolding digits_of
front_split zero l le = refl
front_split (suc k) [] le = absurd (omega arith)
front_split (suc k) (b ∷ l) le = go (is_digit b) refl (front_split k l)
  where
    go : (t : Bool) → is_digit b ≡ t → (k ≤ length (digits_of l) → digits_of l ≡ take k l ++ digits_of (drop k l)) → digits_of (b ∷ l) ≡ b ∷ (take k l ++ digits_of (drop k l))
    go true e ih = rw (digits_of, e) (ap (λ (z : List ℕ). b ∷ z) (ih (omega (arith, le, ap (λ (t : Bool). length {A = ℕ} (elim t [ true ↦ b ∷ digits_of l | false ↦ [] ])) e))))
    go false e ih = absurd (omega (arith, le, ap (λ (t : Bool). length {A = ℕ} (elim t [ true ↦ b ∷ digits_of l | false ↦ [] ])) e))

-- ---- numbers with digits appended
append_more : (u w : List ℕ) (x : Option ℕ) → appended x (u ++ w) ≡ appended (appended x u) w
unfolding appended
append_more [] w x = refl
append_more (d ∷ u) w x = append_more u w (with_digit x (d - 48))

append_over : (ds : List ℕ) → appended None ds ≡ None
unfolding appended with_digit
append_over [] = refl
append_over (d ∷ ds) = append_over ds

append_number : (ds : List ℕ) (n : ℕ) → appended (number n) ds ≡ number (decimal_from n ds)
unfolding appended decimal_from
append_number [] n = refl
append_number (d ∷ ds) n = ap (λ (x : Option ℕ). appended x ds) (with_digit_number n (d - 48)) ∙ append_number ds (10 * n + (d - 48))

-- digits after n write n shifted plus what they write alone
decimal_shift : (w : List ℕ) (n : ℕ) → decimal_from n w ≡ 10 ^ length w * n + decimal w
unfolding decimal_from
decimal_shift [] n = omega arith
decimal_shift (d ∷ w) n =
    decimal_shift w (10 * n + (d - 48))
    ∙ gather n (d - 48) (10 ^ length w) (decimal w)
    ∙ sym (ap (λ (p : ℕ). p * n + decimal_from (10 * 0 + (d - 48)) w) (pow-suc 10 (length w)) ∙ ap (λ (y : ℕ). 10 ^ length w * 10 * n + y) (decimal_shift w (10 * 0 + (d - 48))))
  where
    gather : (n e p r : ℕ) → p * (10 * n + e) + r ≡ p * 10 * n + (p * (10 * 0 + e) + r)
    gather n e p r =
        ap (λ (z : ℕ). z + r) (mul-add p (10 * n) e ∙ ap (λ (z : ℕ). z + p * e) (sym (mul_assoc p 10 n)))
        ∙ add_assoc (p * 10 * n) (p * e) r
        ∙ sym (ap (λ (z : ℕ). p * 10 * n + (p * z + r)) (zero-add e))

append_block : (x : Option ℕ) (d : ℕ) (ds : List ℕ) → appended x (d ∷ ds) ≡ with_block x (10 ^ length (d ∷ ds)) (decimal (d ∷ ds))
unfolding appended with_digit with_block decimal_from
append_block None d ds = append_over ds
append_block (Some n) d ds = append_number ds (10 * n + (d - 48)) ∙ ap number (decimal_shift (d ∷ ds) n)

-- ---- reading on
digits_equal : (c c' : ℕ) (n n' : Option ℕ) → c ≡ c' → n ≡ n' → ◌≡◌ {A = Digits} (record { count = c; number = n }) (record { count = c'; number = n' })
digits_equal c c' n n' p q = cc

pub read_on_start : (text : List ℕ) → digits_read text ≡ read_on text 0 (Some 0)
unfolding digits_read read_on
read_on_start text =
    digits_equal _ _ _ _ (omega arith) (sym (append_number (digits_of text) 0) ∙ ap (λ (x : Option ℕ). appended x (digits_of text)) (number_is 0 (omega arith)))

module _ (text : List ℕ) (from : ℕ) (x : Option ℕ) where
  pub read_on_end : digits_of (drop from text) ≡ [] → record { count = from; number = x } ≡ read_on text from x
  unfolding read_on appended
  read_on_end h = digits_equal _ _ _ _ (omega (arith, ap length h)) (sym (ap (λ (l : List ℕ). appended x l) h))

  -- after some of the digits
  read_on_more : (u : List ℕ) (to : ℕ) (y : Option ℕ) → digits_of (drop from text) ≡ u ++ digits_of (drop to text) → to ≡ from + length u → y ≡ appended x u
      → read_on text from x ≡ read_on text to y
  unfolding read_on
  read_on_more u to y h t e =
      digits_equal _ _ _ _
      (omega (arith, ap length h, t, length-append u (digits_of (drop to text))))
      (ap (λ (l : List ℕ). appended x l) h ∙ append_more u (digits_of (drop to text)) x ∙ ap (λ (z : Option ℕ). appended z (digits_of (drop to text))) (sym e))

  pub read_on_digit : (y : Option ℕ) → from < length text → is_digit (get_or text from 0) ≡ true → y ≡ with_digit x (get_or text from 0 - 48) → read_on text from x ≡ read_on text (from + 1) y
  unfolding appended
  read_on_digit y lt h e = read_on_more (get_or text from 0 ∷ []) (from + 1) y (rw (add-one from) (digits_more text from lt h)) (omega arith) e

  -- a block of eight digits
  module _ (h : 8 ≤ length (digits_of (drop from text))) where
    pub block_inside : from + 8 ≤ length text
    block_inside = omega (arith, h, digits_inside (drop from text), length-drop from text)

    pub block_digits : all_digits (take 8 (drop from text)) ≡ true
    block_digits = front_digits 8 (drop from text) (omega (arith, block_inside, length-drop from text)) ∙ le-leb 8 (length (digits_of (drop from text))) h

    pub block_long : length (take 8 (drop from text)) ≡ 8
    block_long = length-take-le 8 (drop from text) (omega (arith, block_inside, length-drop from text))

    pub read_on_block : (y : Option ℕ) → y ≡ with_block x 100000000 (decimal (take 8 (drop from text))) → read_on text from x ≡ read_on text (from + 8) y
    read_on_block y e =
        read_on_more (take 8 (drop from text)) (from + 8) y
        (front_split 8 (drop from text) h ∙ ap (λ (l : List ℕ). take 8 (drop from text) ++ digits_of l) (drop-drop 8 from text))
        (omega (arith, block_long))
        (e ∙ sym (whole (take 8 (drop from text)) block_long))
      where
        whole : (u : List ℕ) → length u ≡ 8 → appended x u ≡ with_block x 100000000 (decimal u)
        whole [] l = absurd (omega arith)
        whole (d ∷ ds) l = append_block x d ds ∙ ap (λ (k : ℕ). with_block x (10 ^ k) (decimal (d ∷ ds))) l

-- one digit is a block that can write ten numbers
pub digit_block : (x : Option ℕ) (d : ℕ) → with_block x 10 d ≡ with_digit x d
unfolding with_block with_digit
digit_block (Some n) d = refl
digit_block None d = refl

-- ---- a number with a block appended, by what it then is
pub block_number : (x r : Option ℕ) (n m b : ℕ) → x ≡ Some n → r ≡ number (n * m + b) → r ≡ with_block x m b
unfolding with_block
block_number x r n m b e h = h ∙ ap (λ (k : ℕ). number (k + b)) (mul_comm n m) ∙ ap (λ (y : Option ℕ). with_block y m b) (sym e)

-- a number below the largest divided by m has room for what b < m appends
pub block_fits : (n m b : ℕ) → n < 18446744073709551615 / m → b < m → n * m + b < 2 ^ 64
block_fits n m b h k =
    omega (arith, (le-div_iff_mul-le {k = m} {x = suc n} {y = 18446744073709551615} (omega (arith, k))).0 (omega (arith, h)), suc-mul n m, k)
