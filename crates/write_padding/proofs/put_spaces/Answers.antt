-- `write_padding::put_spaces` meets its contract: each turn writes one space.
use Prim.Native.Nat.{◌+◌, ◌-◌}
use mathlib.Core.Path.{◌≡◌}
use mathlib.Core.List.{◌∷◌}
use native.Mathlib.Omega.{arith}
use Rattle.literal_grammar.specs.Print.{spaces}
use Rattle.write_padding.proofs.Texts.{still_start, still_more, still_end, spaces_next, spaces_none}
use Rattle.write_padding.proofs.put_spaces.Goals as goal

pub loop-init : goal.loop-init
loop-init c = let all : c.args.n - 0 ≡ c.args.n = omega arith in rw all (still_start _ _ _)

pub loop-preserved : goal.loop-preserved
loop-preserved c =
    let n = c.args.n in
    let i = c.loop.counter in
    still_more _ (spaces (n - i)) (λ x. 32 ∷ x) (spaces (n - (i + 1))) _ _ _ _ _ _ (λ x. spaces_next n i x c.loop-test.true) c.loop.invariant c.put-p.ensures

pub returns : goal.returns
returns c = let n = c.args.n in let i = c.loop.counter in still_end _ (spaces (n - i)) _ _ _ _ (λ x. spaces_none n i x c.loop-test.false) c.loop.invariant
