-- The definition's two comparisons.
use mathlib.Core.Path.{refl}
use Rattle.literal_grammar.specs.Bytes.{is_quote}
use Rattle.literal_bytes.proofs.is_quote.Goals as goal

pub returns : goal.returns
unfolding is_quote
returns c = refl
