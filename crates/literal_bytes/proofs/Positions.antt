-- Laws on the bytes of a text by position, and on runs of bytes of a class. Past the end a text has the byte 256, which is of no class: so a byte that passes a test is in
-- the text, and a run ends within it. By recursion on the text.
use Prim.Native.Nat.{ℕ, zero, suc, ◌+◌, ◌<◌, ◌≤◌, zero-le, suc-le-suc}
use native.Mathlib.Nat.{not-suc-le-zero, le_of_suc-le-suc}
use native.Mathlib.Omega.{arith}
use native.Mathlib.Numerals.{add-one}
use mathlib.Core.Path.{◌≡◌, refl, sym, ap, ◌∙◌}
use mathlib.Core.List.{List, [], ◌∷◌}
use mathlib.Core.Bool.{Bool, true, false, not, cond}
use lib.ListN.{length, get_or, drop, length-drop, drop_of_length-le}
use borrow.Author.Tests.{not-true, not-false}
use Rattle.counts.proofs.Alike.{true_false}
use Rattle.literal_grammar.specs.Bytes.{is_quote, is_open}
use Rattle.decimal.specs.Decimal.{is_digit}
use Rattle.literal_bytes.specs.Text.{byte_at, kind_of, run, past}
use Rattle.literal_bytes.specs.declared.ValueKind.{ValueKind}
use Rattle.literal_bytes.specs.declared.ValueKind.TheVariants.{Square, Round, Curly, Quote, Minus, Digit, TrueWord, FalseWord, NoneWord, Other}

-- within the list the default does not count
pub get_d_any : (s : List ℕ) (i d e : ℕ) → i < length s → get_or s i d ≡ get_or s i e
get_d_any [] i d e h = absurd (not-suc-le-zero h)
get_d_any (x ∷ s) zero d e h = refl
get_d_any (x ∷ s) (suc i) d e h = get_d_any s i d e (le_of_suc-le-suc h)

-- a byte below 256 is in the text
pub byte_in : (s : List ℕ) (i b : ℕ) → byte_at s i ≡ b → b < 256 → i < length s
byte_in [] i b e h = absurd (omega arith)
byte_in (x ∷ s) zero b e h = suc-le-suc zero-le
byte_in (x ∷ s) (suc i) b e h = suc-le-suc (byte_in s i b e h)

-- by what a test says
pub by_test : {A : Type 0} (P : A → Type 0) (t : Bool) {x y : A} → (t ≡ true → P x) → (t ≡ false → P y) → P (cond t x y)
by_test P true h k = h refl
by_test P false h k = k refl

-- what passes a test that 256 fails is in the text
pub pass_in : (f : ℕ → Bool) (s : List ℕ) (i : ℕ) → f 256 ≡ false → f (byte_at s i) ≡ true → i < length s
pass_in f [] i no_end h = true_false (sym h ∙ no_end)
pass_in f (x ∷ s) zero no_end h = suc-le-suc zero-le
pass_in f (x ∷ s) (suc i) no_end h = suc-le-suc (pass_in f s i no_end h)

pub digit_in : (s : List ℕ) (i : ℕ) → is_digit (byte_at s i) ≡ true → i < length s
unfolding is_digit
digit_in s i h = pass_in is_digit s i refl h

pub open_in : (s : List ℕ) (i : ℕ) → is_open (byte_at s i) ≡ true → i < length s
unfolding is_open
open_in s i h = pass_in is_open s i refl h

-- the brackets that open a list and a tuple open
pub open_square : (b : ℕ) → b ≡ 91 → is_open b ≡ true
unfolding is_open
open_square b h = rw h

pub open_round : (b : ℕ) → b ≡ 40 → is_open b ≡ true
unfolding is_open
open_round b h = rw h

abbrev begins : ValueKind → Bool
begins Square = true
begins Round = true
begins Curly = true
begins Quote = true
begins Minus = true
begins Digit = true
begins TrueWord = true
begins FalseWord = true
begins NoneWord = true
begins Other = false

-- a byte that can begin something is in the text
pub kind_in : (s : List ℕ) (at : ℕ) {k : ValueKind} → kind_of (byte_at s at) ≡ k → begins k ≡ true → at < length s
unfolding kind_of is_quote is_digit
kind_in s at h e = pass_in (λ b. begins (kind_of b)) s at refl (ap begins h ∙ e)

-- ---- runs
run_stop : (f : ℕ → Bool) (s : List ℕ) (at : ℕ) → f (byte_at s at) ≡ false → run f (drop at s) ≡ 0
unfolding run
run_stop f [] zero h = refl
run_stop f [] (suc at) h = refl
run_stop f (x ∷ s) zero h = rw h
run_stop f (x ∷ s) (suc at) h = run_stop f s at h

run_more : (f : ℕ → Bool) (s : List ℕ) (at : ℕ) → at < length s → f (byte_at s at) ≡ true → run f (drop at s) ≡ suc (run f (drop (suc at) s))
unfolding run
run_more f [] at lt h = absurd (not-suc-le-zero lt)
run_more f (x ∷ s) zero lt h = rw h
run_more f (x ∷ s) (suc at) lt h = run_more f s at (le_of_suc-le-suc lt) h

pub past_stop : (f : ℕ → Bool) (s : List ℕ) (at : ℕ) → f (byte_at s at) ≡ false → past f s at ≡ at
unfolding past
past_stop f s at h = omega (arith, run_stop f s at h)

pub past_end : (f : ℕ → Bool) (s : List ℕ) (at : ℕ) → length s ≤ at → past f s at ≡ at
unfolding past run
past_end f s at le = rw (past, drop_of_length-le s le) (omega arith)

pub past_more : (f : ℕ → Bool) (s : List ℕ) (at : ℕ) → at < length s → f (byte_at s at) ≡ true → past f s at ≡ past f s (at + 1)
unfolding past
past_more f s at lt h = rw add-one (omega (arith, run_more f s at lt h))

pub past_from : (f : ℕ → Bool) (s : List ℕ) (at : ℕ) → at ≤ past f s at
unfolding past
past_from f s at = omega arith

pub run_within : (f : ℕ → Bool) (l : List ℕ) → run f l ≤ length l
unfolding run
run_within f [] = omega arith
run_within f (b ∷ l) = go (f b) (run_within f l)
  where
    go : (t : Bool) → run f l ≤ length l → elim t [ true ↦ suc (run f l) | false ↦ 0 ] ≤ length (b ∷ l)
    go true ih = omega arith
    go false ih = omega arith

pub past_within : (f : ℕ → Bool) (s : List ℕ) (at : ℕ) → at ≤ length s → past f s at ≤ length s
unfolding past
past_within f s at le = omega (arith, run_within f (drop at s), length-drop at s)

-- a loop that passes over a run is at `at`, and its test says t of the byte there: it stops where the byte fails, and continues after it otherwise
module _ (f : ℕ → Bool) (s : List ℕ) (from at : ℕ) (so_far : past f s from ≡ past f s at) where
  module _ (lt : at < length s) (t : Bool) (said : t ≡ f (get_or s at 0)) where
    of_byte : f (byte_at s at) ≡ t
    of_byte = ap f (get_d_any s at 256 0 lt) ∙ sym said

    pub run_stops : not t ≡ true → at ≡ past f s from
    run_stops h = sym (so_far ∙ past_stop f s at (of_byte ∙ not-true t h))

    pub run_goes_on : not t ≡ false → past f s from ≡ past f s (at + 1)
    run_goes_on h = so_far ∙ past_more f s at lt (of_byte ∙ not-false t h)

  pub run_over : length s ≤ at → at ≡ past f s from
  run_over le = sym (so_far ∙ past_end f s at le)
