-- A byte's four tests are the definition's.
use mathlib.Core.Path.{◌≡◌, refl}
use mathlib.Core.Bool.{Bool, true, false, ◌||◌, ◌&&◌, not}
use lib.Dec.{eqb}
use Rattle.literal_grammar.specs.Bytes.{is_break}
use Rattle.literal_bytes.specs.Plain.{is_plain}
use Rattle.literal_runs.proofs.PlainTest.passes_in_block.Goals as goal

four : (t v u w : Bool) → ((not t && not v) && not u) && not w ≡ not (t || (u || w) || v)
four true v u w = refl
four false true true w = refl
four false true false true = refl
four false true false false = refl
four false false true w = refl
four false false false true = refl
four false false false false = refl

pub returns : goal.returns
unfolding is_plain is_break
returns c = let b = c.args.b in four (eqb b c.args.self.quote) (eqb b 92) (eqb b 10) (eqb b 13)
