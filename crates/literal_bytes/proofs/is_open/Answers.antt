-- The definition's three comparisons.
use mathlib.Core.Path.{refl}
use Rattle.literal_grammar.specs.Bytes.{is_open}
use Rattle.literal_bytes.proofs.is_open.Goals as goal

pub returns : goal.returns
unfolding is_open
returns c = refl
