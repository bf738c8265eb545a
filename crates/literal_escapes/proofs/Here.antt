-- Where `escape_here` holds, the piece is that escape: two bytes of the text and one of the string. So a loop over pieces may pass it without looking for plain bytes first.
use Prim.Native.Nat.{ℕ, ◌+◌, ◌≤◌}
use native.Mathlib.Omega.{arith}
use mathlib.Core.Path.{◌≡◌, sym, ap, subst, ◌∙◌}
use mathlib.Core.List.{List, [], ◌∷◌, ◌++◌}
use mathlib.Core.Bool.{Bool, true, false, ◌||◌, ◌&&◌, not, or-true}
use lib.Dec.{eqb}
use lib.ListN.{length, get_or}
use borrow.Author.Tests.{not-true, eqb-true, eqb-false, ne_eqb, lt-ltb}
use Rattle.counts.proofs.Alike.{and_left, and_right}
use Rattle.literal_grammar.specs.Bytes.{is_break, is_escape, unescape}
use Rattle.literal_bytes.proofs.Positions.{get_d_any, byte_in}
use Rattle.literal_bytes.specs.Text.{byte_at}
use Rattle.literal_escapes.specs.Strings.{escape_at, escape_here, piece_at}
use Rattle.literal_escapes.specs.declared.Piece.TheVariants.{Byte}
use Rattle.literal_escapes.proofs.Spelling.{byte_ahead, Along, along_byte}

-- the byte that the escape at a position means
abbrev pub means : List ℕ → ℕ → ℕ
means s at = unescape (byte_at s (at + 1))

module _ (q : ℕ) (s : List ℕ) (at : ℕ) (t : Bool) (said : t ≡ escape_here q s at) (yes : t ≡ true) where
  first_two : (not (eqb q 92) && eqb (byte_at s at) 92) ≡ true
  unfolding escape_here
  first_two = and_left (not (eqb q 92) && eqb (byte_at s at) 92) (is_escape (byte_at s (at + 1))) (sym said ∙ yes)

  third : is_escape (byte_at s (at + 1)) ≡ true
  unfolding escape_here
  third = and_right (not (eqb q 92) && eqb (byte_at s at) 92) (is_escape (byte_at s (at + 1))) (sym said ∙ yes)

  other_quote : not (eqb q 92) ≡ true
  other_quote = and_left (not (eqb q 92)) (eqb (byte_at s at) 92) first_two

  slash : eqb (byte_at s at) 92 ≡ true
  slash = and_right (not (eqb q 92)) (eqb (byte_at s at) 92) first_two

  is_slash : byte_at s at ≡ 92
  is_slash = eqb-true (byte_at s at) 92 slash

  pub here_piece : piece_at q s at ≡ Byte (means s at) (at + 2)
  unfolding piece_at escape_at is_break
  here_piece =
      let lt = byte_in s at 92 is_slash (omega arith) in
      let quote : eqb 92 q ≡ false = ne_eqb 92 q (λ e. eqb-false q 92 (not-true (eqb q 92) other_quote) (sym e)) in
      let next : at + 1 + 1 ≡ at + 2 = omega arith in
      rw (piece_at, lt-ltb at (length s) lt, is_slash, quote, escape_at, third, next)

  -- the escape is in the text
  pub here_within : at + 2 ≤ length s
  here_within = (byte_ahead q s at (means s at) (at + 2) here_piece).1

  pub along_here : (from : ℕ) (us : List ℕ) (e : Bool) → Along q s from at us e → Along q s from (at + 2) (us ++ means s at ∷ []) true
  along_here from us e w =
      subst (λ (x : Bool). Along q s from (at + 2) (us ++ means s at ∷ []) x) (ap (λ (x : Bool). e || x) slash ∙ or-true e) (along_byte q s from at us e (means s at) (at + 2) w here_piece)

  -- read where the text has it
  pub means_in : unescape (get_or s (at + 1) 0) ≡ means s at
  means_in = ap unescape (get_d_any s (at + 1) 0 256 (omega (arith, here_within)))
