-- After bytes that are not low the run continues; a quote ends it.
use Prim.Native.Nat.{◌+◌, ◌-◌}
use mathlib.Core.Path.{sym, ◌∙◌}
use native.Mathlib.Omega.{arith}
use lib.ListN.{drop, length-take}
use Rattle.literal_bytes.specs.Text.{part}
use Rattle.literal_bytes.proofs.Positions.{run_within}
use Rattle.literal_runs.specs.Low.{is_high}
use Rattle.literal_runs.proofs.Firsts.{high_on, high_to}
use Rattle.literal_runs.proofs.plain_any.Goals as goal

pub overflow_add-at : goal.overflow_add-at
overflow_add-at c =
    let a = c.args in
    omega (arith, c.first_low.ensures, run_within is_high (part a.text.now a.from (a.from + 16)), length-take (a.from + 16 - a.from) (drop a.from a.text.now))

pub returns-then-byte_is : goal.returns-then-byte_is
returns-then-byte_is c =
    let a = c.args in
    let n = c.first_low.result in
    high_to a.quote a.text.now a.from (a.from + 16) n (omega arith) c.first_low.ensures _ c.byte_is.ensures c.if-byte_is.true

pub returns : goal.returns
returns c =
    let a = c.args in
    c.past_far.ensures ∙ sym (high_on a.quote a.text.now a.from (a.from + 16) c.first_low.result (omega arith) c.first_low.ensures)
