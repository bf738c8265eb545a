-- A string begins with a quote, and nothing else does.
use mathlib.Core.Path.{◌∙◌}
use Rattle.literal_bytes.specs.Text.{byte_at}
use Rattle.descr_field.proofs.Begins.{string_quote}
use Rattle.descr_field.proofs.string_at.Goals as goal

pub returns : goal.returns
returns c =
    let a = c.args in
    c.quote_at.ensures ∙ string_quote (byte_at a.text.now a.at)
