-- The reading of a text, left to right, over what is left of it: a value and what is left after it, or refusal 6 or 7 and what is left from there
-- on. `value k` reads with `value (k - 1)` between brackets, so the limit is the recursion. It is how the promise is shown to be kept; no contract
-- rests on it.
use Prim.Native.Nat.{ℕ, zero, suc}
use mathlib.Core.List.{List, [], ◌∷◌}
use mathlib.Core.Bool.{Bool, true, false, ◌&&◌, cond}
use lib.ListN.{length}
use lib.Dec.{eqb}
use Rattle.decimal.specs.Decimal.{is_digit, digits_of, decimal}
use Rattle.literal_grammar.specs.Bytes.{is_blank, is_quote, is_break, is_escape, unescape}
use Rattle.literal_grammar.specs.Value.{Value, string, integer, True, False, None}
use Rattle.literal_grammar.proofs.Lists.{Item}
use Rattle.literal_grammar.specs.Promise.{Got, got, fault, deep}
use Rattle.literal_grammar.proofs.Texts.{head_of, tail_of}
use Rattle.literal_grammar.proofs.Layers.{item, list_of, tuple_of, dict_of}

abbrev pub Read : Type 0 → Type 0
Read A = Got (List ℕ) A

abbrev pub with : {A B : Type 0} → (A → B) → Read A → Read B
with f (got a r) = got (f a) r
with f (fault r) = fault r
with f (deep r) = deep r

unfoldable pub skip : List ℕ → List ℕ
skip [] = []
skip (b ∷ s) = elim (is_blank b) [ true ↦ skip s | false ↦ b ∷ s ]

unfoldable pub after_digits : List ℕ → List ℕ
after_digits [] = []
after_digits (d ∷ s) = elim (is_digit d) [ true ↦ after_digits s | false ↦ d ∷ s ]

unfoldable pub natural : List ℕ → Read ℕ
natural s = elim (eqb (head_of s) 48) [
  | true ↦ got 0 (tail_of s)
  | false ↦ elim (is_digit (head_of s)) [ true ↦ got (decimal (digits_of s)) (after_digits s) | false ↦ fault s ]
]

-- the word w, for the value v
unfoldable pub word : Value → List ℕ → List ℕ → Read Value
word v [] s = got v s
word v (c ∷ w) s = elim (eqb (head_of s) c) [ true ↦ word v w (tail_of s) | false ↦ fault s ]

-- the rest of a string in the quote q: `slash` says that a backslash comes before it
unfoldable pub quoted : ℕ → Bool → List ℕ → Read (List ℕ)
quoted q slash [] = fault []
quoted q true (b ∷ s) = elim (is_escape b) [ true ↦ with (◌∷◌ (unescape b)) (quoted q false s) | false ↦ fault (b ∷ s) ]
quoted q false (b ∷ s) = elim (eqb b q) [
  | true ↦ got [] s
  | false ↦ elim (eqb b 92) [ true ↦ quoted q true s | false ↦ elim (is_break b) [ true ↦ fault (b ∷ s) | false ↦ with (◌∷◌ b) (quoted q false s) ] ]
]

-- fewer than m things parted by commas, up to the closing bracket c; `lone` says that the last one may be without its comma
unfoldable pub parted : {A : Type 0} → (List ℕ → Read A) → ℕ → Bool → ℕ → List ℕ → Read (List A)
parted rd c lone zero s = fault s
parted rd c lone (suc m) s = elim (eqb (head_of (skip s)) c) [
  | true ↦ got [] (tail_of (skip s))
  | false ↦ elim (rd (skip s)) [
    | got v q ↦ elim (eqb (head_of (skip q)) 44) [
      | true ↦ with (◌∷◌ v) (parted rd c true m (tail_of (skip q)))
      | false ↦ elim (lone && eqb (head_of (skip q)) c) [ true ↦ got (v ∷ []) (tail_of (skip q)) | false ↦ fault (skip q) ]
    ]
    | fault q ↦ fault q
    | deep q ↦ deep q
  ]
]

unfoldable pub up_to : {A : Type 0} → (List ℕ → Read A) → ℕ → Bool → List ℕ → Read (List A)
up_to rd c lone s = parted rd c lone (suc (length s)) s

-- a key, a colon and a value
unfoldable pub paired : (List ℕ → Read Value) → List ℕ → Read Item
paired rd s = elim (rd s) [
  | got k q ↦ elim (eqb (head_of (skip q)) 58) [ true ↦ with (item k) (rd (skip (tail_of (skip q)))) | false ↦ fault (skip q) ]
  | fault q ↦ fault q
  | deep q ↦ deep q
]

pub data Shape : Type 0 where
  Square Round Curly : Shape

-- what follows an opening bracket
unfoldable pub bracketed : (List ℕ → Read Value) → Shape → List ℕ → Read Value
bracketed rd Square s = with list_of (up_to rd 93 true s)
bracketed rd Round s = with tuple_of (up_to rd 41 false s)
bracketed rd Curly s = with dict_of (up_to (paired rd) 125 true s)

-- what a byte can begin
pub data Kind : Type 0 where
  Digit Quote Minus Other : Kind
  Word : Value → List ℕ → Kind
  Opens : Shape → Kind

unfoldable pub kind_of : ℕ → Kind
kind_of b =
    cond (is_digit b) Digit
    (cond (is_quote b) Quote
    (cond (eqb b 45) Minus
    (cond (eqb b 91) (Opens Square)
    (cond (eqb b 40) (Opens Round)
    (cond (eqb b 123) (Opens Curly)
    (cond (eqb b 84) (Word True (84 ∷ 114 ∷ 117 ∷ 101 ∷ []))
    (cond (eqb b 70) (Word False (70 ∷ 97 ∷ 108 ∷ 115 ∷ 101 ∷ []))
    (cond (eqb b 78) (Word None (78 ∷ 111 ∷ 110 ∷ 101 ∷ []))
    Other))))))))

-- what a text whose first byte has this kind is read as; `inner` is how it continues after a bracket
abbrev pub chosen : Kind → List ℕ → (Shape → Read Value) → Read Value
chosen Digit s inner = with (integer false) (natural s)
chosen Quote s inner = with string (quoted (head_of s) false (tail_of s))
chosen Minus s inner = with (integer true) (natural (tail_of s))
chosen Other s inner = fault s
chosen (Word v w) s inner = word v w s
chosen (Opens h) s inner = inner h

-- a value in which k brackets more may be open at once
unfoldable pub value : ℕ → List ℕ → Read Value
value zero s = chosen (kind_of (head_of s)) s (λ h. deep s)
value (suc k) s = chosen (kind_of (head_of s)) s (λ h. bracketed (value k) h (tail_of s))

-- nothing is left but blanks
unfoldable pub alone : {A : Type 0} → Read A → Read A
alone (got v q) = elim (skip q) [ [] ↦ got v [] | b ∷ r ↦ fault (b ∷ r) ]
alone (fault q) = fault q
alone (deep q) = deep q

-- a whole text
unfoldable pub literal : ℕ → List ℕ → Read Value
literal k s = alone (value k (skip s))
