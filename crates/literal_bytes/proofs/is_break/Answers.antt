-- The definition's two comparisons.
use mathlib.Core.Path.{refl}
use Rattle.literal_grammar.specs.Bytes.{is_break}
use Rattle.literal_bytes.proofs.is_break.Goals as goal

pub returns : goal.returns
unfolding is_break
returns c = refl
