-- A given word, byte by byte.
use Prim.Native.Nat.{ℕ, ◌+◌, ◌<◌, ◌≤◌}
use native.Mathlib.Numerals.{add-one}
use mathlib.Core.Path.{◌≡◌}
use mathlib.Core.List.{List}
use lib.ListN.{length, get_or, drop, drop_of_length-le}
use lib.Seq.{drop-cons}
use borrow.Author.Tests.{eq-eqb, ne_eqb}
use Rattle.literal_bytes.specs.Text.{byte_at}
use Rattle.literal_tokens.specs.Tokens.{word_at}
use Rattle.literal_bytes.specs.declared.Parsed.TheVariants.{Value, Fault}

module _ (w s : List ℕ) (i at : ℕ) where
  pub word_more : i < length w → byte_at s at ≡ get_or w i 0 → word_at (drop i w) s at ≡ word_at (drop (i + 1) w) s (at + 1)
  unfolding word_at
  word_more lt h = rw (add-one i, drop-cons w i 0 lt, word_at, eq-eqb _ _ h)

  pub word_fault : i < length w → (byte_at s at ≡ get_or w i 0 → ⊥) → word_at (drop i w) s at ≡ Fault at
  unfolding word_at
  word_fault lt h = rw (drop-cons w i 0 lt, word_at, ne_eqb _ _ h)

  pub word_end : length w ≤ i → word_at (drop i w) s at ≡ Value at
  unfolding word_at
  word_end le = rw (drop_of_length-le w le)
