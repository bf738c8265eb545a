-- `write_pieces::put_escaped` meets its contract: each turn writes one byte more of the name.
use mathlib.Core.Path.{refl}
use Rattle.literal_grammar.specs.Print.{escapes}
use Rattle.write_pieces.proofs.Quoted.{spelled_as}
use Rattle.emit.proofs.Pieces.{left_more, left_end}
use Rattle.write_pieces.proofs.put_escaped.Goals as goal

pub loop-b-preserved : goal.loop-b-preserved
loop-b-preserved c = left_more spelled_as escapes (λ x. refl) (λ b s x. refl) _ _ _ _ _ _ _ _ c.loop-b.invariant c.loop-b-test.true c.put_spelled-p.ensures

pub returns : goal.returns
returns c = left_end spelled_as escapes (λ x. refl) (λ b s x. refl) _ _ _ _ _ _ c.loop-b.invariant c.loop-b-test.false
