-- A type's text, piece by piece: a type by its parts, and the whole to lent room.
use Rattle.std.specs.Prelude.{Err, Ok}
use Prim.Native.Nat.{ℕ, ◌-◌, ◌^◌, ◌<◌, ◌≤◌}
use mathlib.Core.Path.{◌≡◌}
use mathlib.Core.Bool.{true, false}
use mathlib.Core.List.{List, ◌∷◌}
use lib.ListN.{length}
use Rattle.counts.proofs.Owes.{owes_refused}
use Rattle.decimal.specs.Decimal.{printed}
use Rattle.emit.specs.Emits.{Emits}
use Rattle.emit.proofs.Pieces.{emits_then, emits_same}
use Rattle.emit.proofs.Texts.{written_short, written_whole}
use Rattle.refusal.specs.declared.Refusal.TheVariants.{NoReading, OutputRoom}
use Rattle.type_letters.specs.Letters.{order_byte, letter_byte, is_object}
use Rattle.type_units.specs.Units.{unit_text}
use Rattle.type_str.specs.Text.{type_text, is_type, type_printed}
use Rattle.type_str.specs.declared.TypeStr.{TypeStr}
use Rattle.type_print.specs.Printed.{Prints}

module _ (t : TypeStr) (old : List ℕ) (at : ℕ) (mid₁ : List ℕ) (p₁ : ℕ) (mid₂ : List ℕ) (p₂ : ℕ) (a : Emits (λ x. order_byte t.order ∷ x) old at mid₁ p₁) (b : Emits (λ x. letter_byte t.letter ∷ x) mid₁ p₁ mid₂ p₂) where
  head_of : Emits (λ x. order_byte t.order ∷ letter_byte t.letter ∷ x) old at mid₂ p₂
  head_of = emits_then (λ x. order_byte t.order ∷ x) (λ x. letter_byte t.letter ∷ x) old at mid₁ p₁ mid₂ p₂ a b

  pub object_emits : (out : List ℕ) (q : ℕ) → is_object t.letter ≡ true → Emits (unit_text t.units) mid₂ p₂ out q → Emits (type_text t) old at out q
  unfolding type_text
  object_emits out q h c =
      emits_same (λ x. order_byte t.order ∷ letter_byte t.letter ∷ unit_text t.units x) (type_text t) old at out q (λ x. rw (type_text, h))
      (emits_then (λ x. order_byte t.order ∷ letter_byte t.letter ∷ x) (unit_text t.units) old at mid₂ p₂ out q head_of c)

  pub sized_emits : (mid₃ : List ℕ) (p₃ : ℕ) (out : List ℕ) (q : ℕ) → is_object t.letter ≡ false → Emits (printed t.size) mid₂ p₂ mid₃ p₃ → Emits (unit_text t.units) mid₃ p₃ out q
      → Emits (type_text t) old at out q
  unfolding type_text
  sized_emits mid₃ p₃ out q h c d =
      emits_same (λ x. order_byte t.order ∷ letter_byte t.letter ∷ printed t.size (unit_text t.units x)) (type_text t) old at out q (λ x. rw (type_text, h))
      (emits_then (λ x. order_byte t.order ∷ letter_byte t.letter ∷ printed t.size x) (unit_text t.units) old at mid₃ p₃ out q
      (emits_then (λ x. order_byte t.order ∷ letter_byte t.letter ∷ x) (printed t.size) old at mid₂ p₂ mid₃ p₃ head_of c) d)

-- ---- the whole, to lent room
pub prints_none : (t : TypeStr) (room : List ℕ) → is_type t ≡ false → Prints t room (Err NoReading) room
unfolding type_printed
prints_none t room h = rw (type_printed, h) (owes_refused 27 room)

module _ (t : TypeStr) (scratch mid : List ℕ) (n : ℕ) (room : List ℕ) (fits : n < 2 ^ 64) (small : length room < 2 ^ 64 - 1) (h : is_type t ≡ true) (measured : Emits (type_text t) scratch 0 mid n) where
  pub prints_short : length room < n → Prints t room (Err OutputRoom) room
  unfolding type_printed
  prints_short lt = rw (type_printed, h) (written_short (type_text t) scratch mid n room fits small measured lt)

  pub prints_whole : (out : List ℕ) (q : ℕ) → n ≤ length room → Emits (type_text t) room 0 out q → Prints t room (Ok (record { 0 = n })) out
  unfolding type_printed
  prints_whole out q le e = rw (type_printed, h) (written_whole (type_text t) scratch mid n room fits small measured out q le e)
