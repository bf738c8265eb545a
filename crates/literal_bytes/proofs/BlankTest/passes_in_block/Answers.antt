-- The definition's four comparisons.
use mathlib.Core.Path.{refl}
use Rattle.literal_grammar.specs.Bytes.{is_blank}
use Rattle.literal_bytes.proofs.BlankTest.passes_in_block.Goals as goal

pub returns : goal.returns
unfolding is_blank
returns c = refl
