-- The definition's three tests, of which one decides above CR and another fails there.
use mathlib.Core.Path.{sym}
use mathlib.Core.Bool.{or-false}
use native.Mathlib.Omega.{arith}
use borrow.Author.Tests.{eq-eqb, ne_eqb}
use Rattle.literal_grammar.specs.Bytes.{is_break}
use Rattle.literal_bytes.specs.Plain.{is_plain}
use Rattle.literal_runs.proofs.PlainTest.passes.Goals as goal

pub returns-then-b-self : goal.returns-then-b-self
unfolding is_plain is_break
returns-then-b-self c = rw (is_plain, is_break, ne_eqb c.args.b c.args.self.quote c.if-b-self.true, ne_eqb c.args.b 10 (λ e. omega arith), ne_eqb c.args.b 13 (λ e. omega arith))

pub returns-else-b-self : goal.returns-else-b-self
unfolding is_plain
returns-else-b-self c = rw (is_plain, eq-eqb c.args.b c.args.self.quote c.if-b-self.false)

pub returns : goal.returns
unfolding is_plain
returns c = rw (is_plain, sym c.is_break.ensures, ne_eqb c.args.b 92 (λ e. omega arith), or-false)
