-- One byte.
use mathlib.Core.Path.{ap, ◌∙◌}
use lib.Dec.{eqb}
use lib.Pointwise.{pointwise}
use Rattle.get_file.proofs.Lists.{dash_is}
use Rattle.get_file.proofs.is_dash.Goals as goal

pub returns : goal.returns
returns c = c.eq.ensures ∙ ap (pointwise eqb c.args.text.now) c.as_slice.ensures ∙ dash_is c.args.text.now
