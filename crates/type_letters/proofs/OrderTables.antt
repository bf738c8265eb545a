-- The table, read both ways.
use Prim.Native.Nat.{ℕ}
use mathlib.Core.Path.{◌≡◌, refl}
use mathlib.Core.Bool.{true}
use lib.Dec.{eqb}
use borrow.Author.Tests.{eqb-true}
use Rattle.counts.specs.Outcome.{Outcome, gives, refused}
use Rattle.counts.proofs.Holds.{Holds}
use Rattle.type_letters.proofs.Tables.{first_passes}
use Rattle.type_letters.specs.Letters.{order_byte, orders, order_of}
use Rattle.type_letters.specs.declared.Endianness.{Endianness}
use Rattle.type_letters.specs.declared.Endianness.TheVariants.{Little, Big, Irrelevant}

-- ---- each spelling is read as its case
pub order_spelled : (o : Endianness) → order_of (order_byte o) ≡ gives o
unfolding order_of
order_spelled Little = refl
order_spelled Big = refl
order_spelled Irrelevant = refl

-- ---- and only its spelling
pub order_read : (b : ℕ) → Holds (λ o. b ≡ order_byte o) (order_of b)
unfolding order_of
order_read b = go (order_of b) (first_passes (λ o. eqb b (order_byte o)) orders)
  where
    go : (o : Outcome Endianness) → Holds (λ o. eqb b (order_byte o) ≡ true) o → Holds (λ o. b ≡ order_byte o) o
    go (gives o) h = eqb-true b (order_byte o) h
    go (refused n) h = tt
