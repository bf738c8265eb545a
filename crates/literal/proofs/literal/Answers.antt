-- The value after the first blanks, and then nothing but blanks, as in the definition.
use mathlib.Core.Path.{ap, ◌∙◌}
use Rattle.literal_bytes.specs.Got.{pos}
use Rattle.literal.specs.Literal.{alone_at}
use Rattle.literal.proofs.Steps.{alone_at_lem, literal_is}
use Rattle.literal.proofs.Meaning.{reads}
use Rattle.literal.proofs.literal.Goals as goal

pub returns : goal.returns
returns c =
    let s = c.args.text.now in
    let e = c.whole.ensures ∙ ap (alone_at s) c.value-r.ensures ∙ alone_at_lem s _ ∙ ap pos (literal_is s _ c.blanks.ensures) in
    reads s _ e
