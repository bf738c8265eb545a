-- Above the space the definition's four comparisons fail.
use mathlib.Core.Path.{refl}
use native.Mathlib.Omega.{arith}
use borrow.Author.Tests.{ne_eqb, lt-leb}
use Rattle.literal_grammar.specs.Bytes.{is_blank}
use Rattle.literal_bytes.proofs.is_blank.Goals as goal

pub returns-then-b-le32 : goal.returns-then-b-le32
unfolding is_blank
returns-then-b-le32 c = refl

pub returns-else-b-le32 : goal.returns-else-b-le32
unfolding is_blank
returns-else-b-le32 c =
    let b = c.args.b in
    rw (is_blank, lt-leb b 32 (omega arith), ne_eqb b 32 (λ e. omega arith), ne_eqb b 9 (λ e. omega arith), ne_eqb b 10 (λ e. omega arith), ne_eqb b 13 (λ e. omega arith))
