-- `write_pieces::put_numbers` meets its contract: each turn puts one number more.
use mathlib.Core.Path.{refl}
use Rattle.write_pieces.proofs.Quoted.{one_between}
use Rattle.emit.proofs.Pieces.{left_more, left_end}
use Rattle.write_pieces.proofs.put_numbers.Goals as goal

pub loop-n-preserved : goal.loop-n-preserved
loop-n-preserved c = left_more (one_between c.args.before.now c.args.after.now) _ (λ x. refl) (λ b s x. refl) _ _ _ _ _ _ _ _ c.loop-n.invariant c.loop-n-test.true c.put_between-p.ensures

pub returns : goal.returns
returns c = left_end (one_between c.args.before.now c.args.after.now) _ (λ x. refl) (λ b s x. refl) _ _ _ _ _ _ c.loop-n.invariant c.loop-n-test.false
