-- By the byte that `peek` returns.
use mathlib.Core.Path.{ap, ◌∙◌}
use Rattle.literal_grammar.specs.Bytes.{is_quote}
use Rattle.literal_bytes.proofs.quote_at.Goals as goal

pub returns : goal.returns
returns c = c.is_quote.ensures ∙ ap is_quote c.peek.ensures
