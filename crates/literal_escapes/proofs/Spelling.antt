-- Strings, piece by piece. `Along` says that a string is some bytes and then what its pieces from a position on are: each loop over pieces keeps it,
-- and its laws are one for each kind of piece.
use Prim.Native.Nat.{ℕ, zero, suc, ◌+◌, ◌-◌, ◌<◌, ◌≤◌}
use native.Mathlib.Nat.{not-suc-le-zero}
use native.Mathlib.Omega.{arith}
use mathlib.Core.Path.{◌≡◌, refl, ap, subst, ◌∙◌}
use mathlib.Core.List.{List, [], ◌∷◌, ◌++◌, append_assoc, append-nil}
use mathlib.Core.Bool.{Bool, true, false, ◌||◌, or_assoc, or-false}
use lib.ListN.{length, length-append}
use lib.Dec.{eqb, ltb}
use borrow.Author.Tests.{ltb-true}
use denote.Enum.Declared.{tag_of}
use types.Run.{OneOf, miss}
use Rattle.literal_grammar.specs.Bytes.{is_break, is_escape}
use Rattle.literal_escapes.specs.contracts.Piece.{the_type}
use Rattle.literal_bytes.proofs.Positions.{by_test, pass_in}
use Rattle.literal_bytes.specs.Text.{byte_at}
use Rattle.literal_escapes.specs.Strings.{escape_at, piece_by, piece_at, end_by, Spelled, ends, heard, pieces, spelled}
use Rattle.literal_bytes.specs.declared.Parsed.{Parsed}
use Rattle.literal_bytes.specs.declared.Parsed.TheVariants.{Value, Fault}
use Rattle.literal_escapes.specs.declared.Piece.{Piece}
use Rattle.literal_escapes.specs.declared.Piece.TheVariants.{Close, Byte, Bad}

-- ---- a piece ends within the text, after its first byte
abbrev pub PieceAhead : ℕ → ℕ → Piece → Type 0
PieceAhead lo hi (Close p) = (lo < p) × (p ≤ hi)
PieceAhead lo hi (Byte b p) = (lo < p) × (p ≤ hi)
PieceAhead lo hi (Bad p) = Unit {0}

piece_from : (lo mid hi : ℕ) (p : Piece) → lo ≤ mid → PieceAhead mid hi p → PieceAhead lo hi p
piece_from lo mid hi (Close p) le h = omega arith
piece_from lo mid hi (Byte b p) le h = omega arith
piece_from lo mid hi (Bad p) le h = tt

escape_in : (s : List ℕ) (at : ℕ) → is_escape (byte_at s at) ≡ true → at < length s
unfolding is_escape
escape_in s at h = pass_in is_escape s at refl h

escape_ahead : (s : List ℕ) (at : ℕ) → PieceAhead at (length s) (escape_at s at)
unfolding escape_at
escape_ahead s at = by_test (λ p. PieceAhead at (length s) p) (is_escape (byte_at s at)) (λ h. let lt = escape_in s at h in omega arith) (λ h. tt)

pub piece_ahead : (q : ℕ) (s : List ℕ) (at : ℕ) → PieceAhead at (length s) (piece_at q s at)
unfolding piece_at
piece_ahead q s at = by_test P (ltb at (length s)) (λ h. inside (ltb-true at (length s) h)) (λ h. tt)
  where
    P : Piece → Type 0
    P p = PieceAhead at (length s) p

    inside : at < length s → P (piece_by q s at)
    inside lt =
        by_test P (eqb (byte_at s at) q) (λ h. omega arith)
        (λ h. by_test P (is_break (byte_at s at)) (λ h. tt)
        (λ h. by_test P (eqb (byte_at s at) 92) (λ h. piece_from at (at + 1) (length s) (escape_at s (at + 1)) (omega arith) (escape_ahead s (at + 1)))
        (λ h. omega arith)))

pub byte_ahead : (q : ℕ) (s : List ℕ) (at b p : ℕ) → piece_at q s at ≡ Byte b p → (at < p) × (p ≤ length s)
byte_ahead q s at b p h = subst (λ (x : Piece). PieceAhead at (length s) x) h (piece_ahead q s at)

-- ---- a string is the bytes us, of which some are escapes where e says so, and then the pieces of r
abbrev pub after : List ℕ → Bool → Spelled → Spelled
after us e r = record { bytes = us ++ r.bytes; escape = e || r.escape; ended = r.ended }

after_heard : (us : List ℕ) (e : Bool) (b : ℕ) (x : Bool) (r : Spelled) → after us e (heard b x r) ≡ after (us ++ b ∷ []) (e || x) r
after_heard us e b x r = simp (append_assoc, or_assoc)

after_ends : (us : List ℕ) (e : Bool) (r : Parsed) → after us e (ends r) ≡ record { bytes = us; escape = e; ended = r }
after_ends us e r = simp (append-nil, or-false)

pub record Along (q : ℕ) (s : List ℕ) (from at : ℕ) (us : List ℕ) (e : Bool) : Type 0 where
  pub bound : ℕ
  pub enough : length s - at < bound
  pub rest : spelled q s from ≡ after us e (pieces bound q s at)
  pub far : from + length us ≤ at

module _ (q : ℕ) (s : List ℕ) (from : ℕ) where
  pub along_start : Along q s from from [] false
  unfolding spelled
  along_start = record { bound = length s + 1; enough = omega arith; rest = refl; far = omega arith }

  module _ (at : ℕ) (us : List ℕ) (e : Bool) where
    closes : (m p : ℕ) → length s - at < m → piece_at q s at ≡ Close p → pieces m q s at ≡ ends (Value p)
    unfolding pieces
    closes zero p lt h = absurd (not-suc-le-zero lt)
    closes (suc m) p lt h = rw (pieces, h)

    fails : (m p : ℕ) → length s - at < m → piece_at q s at ≡ Bad p → pieces m q s at ≡ ends (Fault p)
    unfolding pieces
    fails zero p lt h = absurd (not-suc-le-zero lt)
    fails (suc m) p lt h = rw (pieces, h)

    pub along_close : (p : ℕ) → Along q s from at us e → piece_at q s at ≡ Close p → spelled q s from ≡ record { bytes = us; escape = e; ended = Value p }
    along_close p w h = w.rest ∙ ap (after us e) (closes w.bound p w.enough h) ∙ after_ends us e (Value p)

    pub along_bad : (p : ℕ) → Along q s from at us e → piece_at q s at ≡ Bad p → spelled q s from ≡ record { bytes = us; escape = e; ended = Fault p }
    along_bad p w h = w.rest ∙ ap (after us e) (fails w.bound p w.enough h) ∙ after_ends us e (Fault p)

    byte_by : (m b p : ℕ) → length s - at < m → spelled q s from ≡ after us e (pieces m q s at) → from + length us ≤ at → piece_at q s at ≡ Byte b p → (at < p) × (p ≤ length s)
        → Along q s from p (us ++ b ∷ []) (e || eqb (byte_at s at) 92)
    unfolding pieces
    byte_by zero b p lt w far h ahead = absurd (not-suc-le-zero lt)
    byte_by (suc m) b p lt w far h ahead = record {
      bound = m;
      enough = omega arith;
      rest = w ∙ rw (pieces, h) (after_heard us e b (eqb (byte_at s at) 92) (pieces m q s p));
      far = simp length-append (omega arith);
    }

    pub along_byte : (b p : ℕ) → Along q s from at us e → piece_at q s at ≡ Byte b p → Along q s from p (us ++ b ∷ []) (e || eqb (byte_at s at) 92)
    along_byte b p w h = byte_by w.bound b p w.enough w.rest w.far h (byte_ahead q s at b p h)

    -- what the `else` of `let Piece::Byte(b, e) = p else { .. }` knows: the string has no more bytes, and ends there
    pub along_stop : (p : Piece) → Along q s from at us e → piece_at q s at ≡ p → OneOf (0 ∷ 2 ∷ []) (tag_of the_type p) → spelled q s from ≡ record { bytes = us; escape = e; ended = end_by p }
    along_stop (Close p) w h o = along_close p w h
    along_stop (Byte b p) w h o = absurd (miss (0 ∷ 2 ∷ []) 1 tt o)
    along_stop (Bad p) w h o = along_bad p w h
