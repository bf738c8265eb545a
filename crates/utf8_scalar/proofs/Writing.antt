-- The three results of writing one scalar value, each with the room it leaves: the encoding, and the rest of the room after it.
use Rattle.std.specs.Prelude.{Err, Ok, Option, None, Some}
use Rattle.std.specs.Option.{ok_or}
use Rattle.std.specs.Char.{encode_utf8 as utf8_of}
use Prim.Native.Nat.{ℕ, ◌≤◌, ◌<◌}
use mathlib.Core.Path.{◌≡◌, refl, sym, ap}
use mathlib.Core.Bool.{true, false}
use mathlib.Core.List.{List, ◌++◌}
use lib.ListN.{length, drop}
use Rattle.counts.specs.Outcome.{gives, refused}
use Rattle.counts.proofs.Owes.{owes_refused, owes_same, roomed_whole, roomed_short}
use Rattle.utf8_scalar.specs.Scalar.{is_scalar}
use Rattle.utf8_scalar.specs.Encode.{encode}
use Rattle.utf8_scalar.specs.Answer.{encoding, Encodes}
use Rattle.refusal.specs.declared.Refusal.{Refusal}

module _ (c : ℕ) (room : List ℕ) where
  pub encoding_not : is_scalar c ≡ false → encoding c room ≡ refused 29
  unfolding encoding
  encoding_not s = simp (encoding, s)

  pub encoding_short : is_scalar c ≡ true → length room < length (encode c) → encoding c room ≡ refused 28
  unfolding encoding
  encoding_short s h = rw (encoding, s) (roomed_short 28 room (encode c) h)

  pub encoding_fits : is_scalar c ≡ true → length (encode c) ≤ length room → encoding c room ≡ gives (encode c)
  unfolding encoding
  encoding_fits s h = rw (encoding, s) (roomed_whole 28 room (encode c) h)

  pub not_scalar : is_scalar c ≡ false → Encodes c room (Err Refusal.Scalar) room
  not_scalar s = owes_same _ _ room _ _ (sym (encoding_not s)) (owes_refused 29 room)

  pub no_room : is_scalar c ≡ true → length room < length (encode c) → Encodes c room (Err Refusal.OutputRoom) room
  no_room s h = owes_same _ _ room _ _ (sym (encoding_short s h)) (owes_refused 28 room)

  pub written : (bytes out : List ℕ) → is_scalar c ≡ true → encode c ≡ bytes → length bytes ≤ length room → out ≡ bytes
      → Encodes c room (Ok (record { 0 = length bytes })) (out ++ drop (length bytes) room)
  written bytes out s e h o =
      owes_same _ _ room _ _ (sym (rw e at (encoding_fits s (rw e h)))) (record { answered = refl; room_after = ap (λ (l : List ℕ). l ++ drop (length bytes) room) o })

-- the library's encoding is Table 3-6
pub table_rows : (c : ℕ) → utf8_of c ≡ encode c
unfolding utf8_of encode
table_rows c = refl

-- ---- what `ok_or` returns
pub some_given : {E : Type 0} (o : Option ℕ) (e : E) (x : ℕ) → ok_or o e ≡ Ok x → o ≡ Some x
some_given (Some y) e x h = cc
some_given None e x h = absurd cc

pub none_given : {E : Type 0} (o : Option ℕ) (e f : E) → ok_or o e ≡ Err f → (o ≡ None) × (e ≡ f)
none_given None e f h = (refl, cc)
none_given (Some y) e f h = absurd cc
