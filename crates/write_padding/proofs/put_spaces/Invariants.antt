-- `write_padding::put_spaces` meets its contract: each turn writes one space.
use Prim.Native.Nat.{◌-◌}
use Rattle.literal_grammar.specs.Print.{spaces}
use Rattle.write_padding.proofs.Texts.{Still}
use Rattle.write_padding.proofs.put_spaces.Given as goal

abbrev pub invariant-loop : goal.invariant-loop
invariant-loop l = Still (spaces l.n) (spaces (l.n - l.counter)) l.initial.out l.at l.out l.p
