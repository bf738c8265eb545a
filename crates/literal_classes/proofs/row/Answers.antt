-- Each arm is a row; the last one knows that r is none of those before it.
use native.Mathlib.Omega.{arith}
use borrow.Author.Tests.{ne_eqb}
use Rattle.literal_classes.specs.Table.{rows}
use Rattle.literal_classes.proofs.Table.{other_at}
use Rattle.literal_classes.proofs.row.Goals as goal

pub returns-in-0 : goal.returns-in-0
unfolding rows
returns-in-0 c = rw c.in-0.is

pub returns-in-2 : goal.returns-in-2
unfolding rows
returns-in-2 c = rw c.in-2.is

pub returns-in-3 : goal.returns-in-3
unfolding rows
returns-in-3 c = rw c.in-3.is

pub returns-in-5 : goal.returns-in-5
unfolding rows
returns-in-5 c = rw c.in-5.is

pub returns-in-7 : goal.returns-in-7
unfolding rows
returns-in-7 c = rw c.in-7.is

pub returns-in-4 : goal.returns-in-4
unfolding rows
returns-in-4 c = rw c.in-4.is

pub returns-in-6 : goal.returns-in-6
unfolding rows
returns-in-6 c = rw c.in-6.is

pub returns-in_default : goal.returns-in_default
returns-in_default c =
    let r = c.args.r in
    other_at r (rw (ne_eqb r 0 (λ e. omega arith), ne_eqb r 2 (λ e. omega arith), ne_eqb r 3 (λ e. omega arith), ne_eqb r 4 (λ e. omega arith), ne_eqb r 6 (λ e. omega arith), ne_eqb r 5 (λ e. omega arith), ne_eqb r 7 (λ e. omega arith)))
