-- Where tokens end: after their first byte and within the text. Each law follows the definition that it speaks of.
use Prim.Native.Nat.{ℕ, zero, suc, ◌+◌, ◌<◌}
use native.Mathlib.Omega.{arith}
use mathlib.Core.Path.{◌≡◌, refl, sym, subst, ◌∙◌}
use mathlib.Core.List.{List, [], ◌∷◌}
use mathlib.Core.Bool.{Bool, true, false}
use lib.ListN.{length}
use lib.Dec.{eqb, lit<}
use borrow.Author.Tests.{eqb-true}
use denote.Enum.Declared.{tag_of}
use types.Run.{OneOf, miss}
use Rattle.decimal.specs.Decimal.{is_digit}
use Rattle.literal_bytes.specs.contracts.ValueKind.{the_type}
use Rattle.literal_bytes.proofs.Positions.{byte_in, digit_in, past_from, past_within}
use Rattle.literal_bytes.proofs.Ends.{pos_with, pos_giving, Ahead, ahead_from}
use Rattle.literal_escapes.proofs.Spelling.{PieceAhead, piece_ahead}
use Rattle.literal_bytes.specs.Got.{pos, giving}
use Rattle.literal_bytes.specs.Text.{byte_at, kind_of, past}
use Rattle.literal_escapes.specs.Strings.{piece_at, Spelled, ends, heard, pieces, spelled}
use Rattle.literal_tokens.specs.Tokens.{natural_at, word_at, word_true, word_false, word_none, token_at}
use Rattle.literal_bytes.specs.declared.Parsed.{Parsed}
use Rattle.literal_bytes.specs.declared.Parsed.TheVariants.{Value, Fault}
use Rattle.literal_bytes.specs.declared.ValueKind.{ValueKind}
use Rattle.literal_bytes.specs.declared.ValueKind.TheVariants.{Square, Round, Curly, Quote, Minus, Digit, TrueWord, FalseWord, NoneWord, Other}
use Rattle.literal_escapes.specs.declared.Piece.{Piece}
use Rattle.literal_escapes.specs.declared.Piece.TheVariants.{Close, Byte, Bad}

natural_ahead : (s : List ℕ) (at : ℕ) → Ahead at (length s) (natural_at s at)
unfolding natural_at
natural_ahead s at = first (eqb (byte_at s at) 48) refl
  where
    more : (t : Bool) → is_digit (byte_at s at) ≡ t → Ahead at (length s) (elim t [ true ↦ Value (past is_digit s (at + 1)) | false ↦ Fault at ])
    more true h =
        let lt = digit_in s at h in
        omega (arith, past_from is_digit s (at + 1), past_within is_digit s (at + 1) (omega arith))
    more false h = tt

    first : (t : Bool) → eqb (byte_at s at) 48 ≡ t → Ahead at (length s) (elim t [
      | true ↦ Value (at + 1)
      | false ↦ elim (is_digit (byte_at s at)) [ true ↦ Value (past is_digit s (at + 1)) | false ↦ Fault at ]
    ])
    first true h = let lt = byte_in s at 48 (eqb-true _ _ h) (lit< tt) in omega arith
    first false h = more (is_digit (byte_at s at)) refl

abbrev pub Bytes : List ℕ → Type 0
Bytes [] = Unit {0}
Bytes (c ∷ w) = (c < 256) × Bytes w

abbrev SpellsAhead : ℕ → ℕ → Spelled → Type 0
SpellsAhead lo hi r = Ahead lo hi r.ended

module _ (s : List ℕ) where
  -- the rest of a word whose first byte is at `at`
  word_after : (w : List ℕ) → Bytes w → (at : ℕ) → at < length s → Ahead at (length s) (word_at w s (at + 1))
  unfolding word_at
  word_after [] bs at lt = omega arith
  word_after (c ∷ w) bs at lt = go (eqb (byte_at s (at + 1)) c) refl (word_after w bs.1 (at + 1))
    where
      go : (t : Bool) → eqb (byte_at s (at + 1)) c ≡ t → (at + 1 < length s → Ahead (at + 1) (length s) (word_at w s (at + 1 + 1)))
          → Ahead at (length s) (elim t [ true ↦ word_at w s (at + 1 + 1) | false ↦ Fault (at + 1) ])
      go true h ih = ahead_from at (at + 1) (length s) (word_at w s (at + 1 + 1)) (omega arith) (ih (byte_in s (at + 1) c (eqb-true _ _ h) bs.0))
      go false h ih = tt

  word_ahead : (c : ℕ) (w : List ℕ) → Bytes (c ∷ w) → (at : ℕ) → Ahead at (length s) (word_at (c ∷ w) s at)
  unfolding word_at
  word_ahead c w bs at = go (eqb (byte_at s at) c) refl
    where
      go : (t : Bool) → eqb (byte_at s at) c ≡ t → Ahead at (length s) (elim t [ true ↦ word_at w s (at + 1) | false ↦ Fault at ])
      go true h = word_after w bs.1 at (byte_in s at c (eqb-true _ _ h) bs.0)
      go false h = tt

  pieces_ahead : (q m at : ℕ) → Ahead at (length s) (pieces m q s at).ended
  unfolding pieces
  pieces_ahead q zero at = tt
  pieces_ahead q (suc m) at = go (piece_at q s at) (piece_ahead q s at) (pieces_ahead q m)
    where
      go : (p : Piece) → PieceAhead at (length s) p → ((at : ℕ) → Ahead at (length s) (pieces m q s at).ended)
          → SpellsAhead at (length s) (elim p [ Close e ↦ ends (Value e) | Byte b e ↦ heard b (eqb (byte_at s at) 92) (pieces m q s e) | Bad e ↦ ends (Fault e) ])
      go (Close e) h ih = h
      go (Byte b e) h ih = ahead_from at e (length s) (pieces m q s e).ended (omega arith) (ih e)
      go (Bad e) h ih = tt

  pub spelled_ahead : (q at : ℕ) → Ahead at (length s) (spelled q s at).ended
  unfolding spelled
  spelled_ahead q at = pieces_ahead q (length s + 1) at

-- how the token at `at` ends, by the kind of its first byte
abbrev pub token_end : List ℕ → ℕ → ValueKind → Parsed
token_end s at Quote = (spelled (byte_at s at) s (at + 1)).ended
token_end s at Minus = natural_at s (at + 1)
token_end s at Digit = natural_at s at
token_end s at TrueWord = word_at word_true s at
token_end s at FalseWord = word_at word_false s at
token_end s at NoneWord = word_at word_none s at
token_end s at Square = Fault at
token_end s at Round = Fault at
token_end s at Curly = Fault at
token_end s at Other = Fault at

module _ (s : List ℕ) (at : ℕ) where
  pub token_ends : (k : ValueKind) → kind_of (byte_at s at) ≡ k → token_end s at k ≡ pos (token_at s at)
  unfolding token_at
  token_ends Quote h = rw (token_at, h) (sym (pos_with _ (giving (λ e. (spelled (byte_at s at) s (at + 1)).bytes) (spelled (byte_at s at) s (at + 1)).ended) ∙ pos_giving _ _))
  token_ends Minus h = rw (token_at, h) (sym (pos_giving _ (natural_at s (at + 1))))
  token_ends Digit h = rw (token_at, h) (sym (pos_giving _ (natural_at s at)))
  token_ends TrueWord h = rw (token_at, h) (sym (pos_giving _ (word_at word_true s at)))
  token_ends FalseWord h = rw (token_at, h) (sym (pos_giving _ (word_at word_false s at)))
  token_ends NoneWord h = rw (token_at, h) (sym (pos_giving _ (word_at word_none s at)))
  token_ends Square h = rw (token_at, h)
  token_ends Round h = rw (token_at, h)
  token_ends Curly h = rw (token_at, h)
  token_ends Other h = rw (token_at, h)

  -- what the last arm of the code's match knows
  pub no_token : (k : ValueKind) → OneOf (0 ∷ 1 ∷ 2 ∷ 9 ∷ []) (tag_of the_type k) → token_end s at k ≡ Fault at
  no_token Square o = refl
  no_token Round o = refl
  no_token Curly o = refl
  no_token Other o = refl
  no_token Quote o = absurd (miss (0 ∷ 1 ∷ 2 ∷ 9 ∷ []) 3 tt o)
  no_token Minus o = absurd (miss (0 ∷ 1 ∷ 2 ∷ 9 ∷ []) 4 tt o)
  no_token Digit o = absurd (miss (0 ∷ 1 ∷ 2 ∷ 9 ∷ []) 5 tt o)
  no_token TrueWord o = absurd (miss (0 ∷ 1 ∷ 2 ∷ 9 ∷ []) 6 tt o)
  no_token FalseWord o = absurd (miss (0 ∷ 1 ∷ 2 ∷ 9 ∷ []) 7 tt o)
  no_token NoneWord o = absurd (miss (0 ∷ 1 ∷ 2 ∷ 9 ∷ []) 8 tt o)

  by_kind : (k : ValueKind) → kind_of (byte_at s at) ≡ k → Ahead at (length s) (token_end s at k)
  by_kind Quote h = ahead_from at (at + 1) (length s) (spelled (byte_at s at) s (at + 1)).ended (omega arith) (spelled_ahead s (byte_at s at) (at + 1))
  by_kind Minus h = ahead_from at (at + 1) (length s) (natural_at s (at + 1)) (omega arith) (natural_ahead s (at + 1))
  by_kind Digit h = natural_ahead s at
  by_kind TrueWord h = word_ahead s 84 (114 ∷ 117 ∷ 101 ∷ []) (lit< tt, (lit< tt, (lit< tt, (lit< tt, tt)))) at
  by_kind FalseWord h = word_ahead s 70 (97 ∷ 108 ∷ 115 ∷ 101 ∷ []) (lit< tt, (lit< tt, (lit< tt, (lit< tt, (lit< tt, tt))))) at
  by_kind NoneWord h = word_ahead s 78 (111 ∷ 110 ∷ 101 ∷ []) (lit< tt, (lit< tt, (lit< tt, (lit< tt, tt)))) at
  by_kind Square h = tt
  by_kind Round h = tt
  by_kind Curly h = tt
  by_kind Other h = tt

  pub token_ahead : Ahead at (length s) (pos (token_at s at))
  token_ahead = subst (λ (r : Parsed). Ahead at (length s) r) (token_ends (kind_of (byte_at s at)) refl) (by_kind (kind_of (byte_at s at)) refl)
