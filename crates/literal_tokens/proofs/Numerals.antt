-- Digits at a position: the run that they are is what crate decimal reads there.
use Rattle.std.specs.Prelude.{None, Some, Option}
use Prim.Native.Nat.{ℕ, suc, ◌+◌, ◌-◌, ◌<◌, ◌≤◌}
use native.Mathlib.Omega.{arith}
use mathlib.Core.Path.{◌≡◌, refl, sym, ap, ◌∙◌}
use mathlib.Core.List.{List, [], ◌∷◌}
use mathlib.Core.Bool.{Bool, true, false}
use lib.ListN.{length, take, drop, length-drop}
use lib.Seq.{drop-cons, take_all}
use lib.Dec.{lit<}
use borrow.Author.Tests.{eq-eqb, ne_eqb}
use Rattle.counts.specs.Number.{number}
use Rattle.counts.proofs.Fits.{number_is}
use Rattle.decimal.specs.Decimal.{is_digit, digits_of, decimal, decimal_from}
use Rattle.decimal.specs.Read.{digits_read}
use Rattle.decimal.specs.declared.Digits.{Digits}
use Rattle.decimal.proofs.Runs.{digits_inside}
use Rattle.literal_bytes.specs.Text.{byte_at, part, run, past}
use Rattle.literal_tokens.specs.Tokens.{natural_at, number_of_numeral, numeral_at}
use Rattle.literal_bytes.specs.declared.Parsed.{Parsed}
use Rattle.literal_bytes.specs.declared.Parsed.TheVariants.{Value, Fault}
use Rattle.literal_bytes.proofs.Positions.{byte_in, digit_in, past_more}

run_digits : (l : List ℕ) → run is_digit l ≡ length (digits_of l)
unfolding run digits_of
run_digits [] = refl
run_digits (b ∷ l) = go (is_digit b) (run_digits l)
  where
    go : (t : Bool) → run is_digit l ≡ length (digits_of l) → elim t [ true ↦ suc (run is_digit l) | false ↦ 0 ] ≡ length {A = ℕ} (elim t [ true ↦ b ∷ digits_of l | false ↦ [] ])
    go true ih = ap suc ih
    go false ih = refl

front_digits : (l : List ℕ) → take (length (digits_of l)) l ≡ digits_of l
unfolding digits_of
front_digits [] = refl
front_digits (b ∷ l) = go (is_digit b) (front_digits l)
  where
    ds : Bool → List ℕ
    ds t = elim t [ true ↦ b ∷ digits_of l | false ↦ [] ]

    go : (t : Bool) → take (length (digits_of l)) l ≡ digits_of l → take (length (ds t)) (b ∷ l) ≡ ds t
    go true ih = ap (λ (x : List ℕ). b ∷ x) ih
    go false ih = refl

-- how digits end is known
ended_at_lem : (s : List ℕ) (at : ℕ) (r : Parsed) → natural_at s at ≡ r → (n : Option ℕ) → n ≡ number_of_numeral s at r → record { ended = r; number = n } ≡ numeral_at s at
ended_at_lem s at r h n hn = ap (λ (x : Option ℕ). record { ended = r; number = x }) hn ∙ ap (λ (x : Parsed). record { ended = x; number = number_of_numeral s at x }) (sym h)

module _ (s : List ℕ) (at : ℕ) where
  one_byte : at < length s → part s at (at + 1) ≡ byte_at s at ∷ []
  one_byte lt = let one : at + 1 - at ≡ 1 = omega arith in rw (one, drop-cons s at 256 lt)

  pub numeral_zero : byte_at s at ≡ 48 → record { ended = Value (at + 1); number = Some 0 } ≡ numeral_at s at
  unfolding natural_at decimal_from
  numeral_zero h =
      let digits = one_byte (byte_in s at 48 h (lit< tt)) ∙ ap (λ (b : ℕ). b ∷ []) h in
      ended_at_lem s at (Value (at + 1)) (rw (natural_at, eq-eqb _ _ h)) (Some 0) (sym (ap (λ (l : List ℕ). number (decimal l)) digits ∙ number_is 0 (omega arith)))

  module _ (nonzero : byte_at s at ≡ 48 → ⊥) where
    pub numeral_fault : is_digit (byte_at s at) ≡ false → record { ended = Fault at; number = None } ≡ numeral_at s at
    unfolding natural_at
    numeral_fault h = ended_at_lem s at (Fault at) (rw (natural_at, ne_eqb _ _ nonzero, h)) None refl

    module _ (digit : is_digit (byte_at s at) ≡ true) (r : Digits) (hr : r ≡ digits_read (take (length s - at) (drop at s))) where
      read_here : r ≡ digits_read (drop at s)
      read_here = hr ∙ ap digits_read (take_all (length s - at) (drop at s) (rw length-drop (omega arith)))

      count_is : r.count ≡ length (digits_of (drop at s))
      unfolding digits_read
      count_is = ap (λ (x : Digits). x.count) read_here

      pub numeral_inside : at + r.count ≤ length s
      numeral_inside = let lt = digit_in s at digit in omega (arith, count_is, digits_inside (drop at s), length-drop at s)

      ends_there : natural_at s at ≡ Value (at + r.count)
      unfolding natural_at past
      ends_there =
          let e : past is_digit s at ≡ at + r.count = omega (arith, run_digits (drop at s), count_is) in
          rw (natural_at, ne_eqb _ _ nonzero, digit) (ap Value (sym (past_more is_digit s at (digit_in s at digit) digit) ∙ e))

      digits_are : part s at (at + r.count) ≡ digits_of (drop at s)
      digits_are =
          let n : at + r.count - at ≡ length (digits_of (drop at s)) = omega (arith, count_is) in
          rw n (front_digits (drop at s))

      pub numeral_digits : record { ended = Value (at + r.count); number = r.number } ≡ numeral_at s at
      unfolding digits_read
      numeral_digits =
          ended_at_lem s at (Value (at + r.count)) ends_there r.number (ap (λ (x : Digits). x.number) read_here ∙ sym (ap (λ (l : List ℕ). number (decimal l)) digits_are))
