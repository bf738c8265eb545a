use native.Mathlib.Omega.{arith}
use borrow.Author.Tests.{not-true, not-false, eq-eqb, le-ltb}
use Rattle.write_depth.proofs.Listing.{under_innermost, under_record}
use Rattle.write_depth.proofs.Nesting.{plain_within, record_none, record_within, under_inside, under_within, under_listed, passing_asks, passing_few, passing_no, passing_more, passing_end}
use Rattle.write_depth.proofs.+fields_within_within.Goals as goal
use Rattle.write_depth.proofs.+fields_within_within.Goals.{fields_within-then-k-brackets-via-then-k-brackets, fields_within-then-k-brackets-via-else-k-brackets+then-not-within}

pub fields_within-within-requires : goal.fields_within-within-requires
fields_within-within-requires t c =
    let x = c.requires in
    let o = c.loop in
    let g = o.invariant x.0 x.1 x.2 in
    let y = passing_asks _ _ _ o.c o.counter x.0 g (omega (arith, x.1)) _ c.entry_at-field.ensures in
    (omega (arith, g.further), (y.0, y.1))

pub fields_within-returns-then-k-brackets : goal.fields_within-returns-then-k-brackets
fields_within-returns-then-k-brackets t c = λ fs n l.
    let o = c.loop in
    elim c.then-k-brackets.branch [
      | fields_within-then-k-brackets-via-then-k-brackets w ↦ passing_few _ _ _ o.c o.counter fs (o.invariant fs n l) (omega arith) _ c.entry_at-field.ensures (omega (arith, c.brackets.ensures))
      | fields_within-then-k-brackets-via-else-k-brackets+then-not-within w ↦
          passing_no _ _ _ o.c o.counter fs (o.invariant fs n l) (omega arith) _ c.entry_at-field.ensures (omega (arith, c.brackets.ensures)) _ w.within.ensures (not-true _ w.if-not-within.true-raw)
    ]

pub fields_within-overflow_add-c : goal.fields_within-overflow_add-c
fields_within-overflow_add-c t c =
    let x = c.requires in
    let o = c.loop in
    let y = passing_asks _ _ _ o.c o.counter x.0 (o.invariant x.0 x.1 x.2) (omega (arith, x.1)) _ c.entry_at-field.ensures in
    omega (arith, y.2)

pub fields_within-loop-preserved : goal.fields_within-loop-preserved
fields_within-loop-preserved t c = λ fs n l.
    let o = c.loop in
    passing_more _ _ _ o.c o.counter fs (o.invariant fs n l) (omega arith) _ c.entry_at-field.ensures (omega (arith, c.brackets.ensures)) _ c.within.ensures (not-false _ c.if-not-within.false-raw)

pub fields_within-returns : goal.fields_within-returns
fields_within-returns t c = λ fs n l. let o = c.loop in passing_end _ _ _ o.c o.counter fs (o.invariant fs n l) (omega arith)

pub within-returns-then-entry-eq-PLAIN : goal.within-returns-then-entry-eq-PLAIN
within-returns-then-entry-eq-PLAIN t c =
    rw (eq-eqb _ 0 c.if-entry-eq-PLAIN.true)
    (under_within _ _ _ (under_innermost _ _ _ c.innermost-under.ensures) _ _ (plain_within _ _ _ c.entry_at-entry.ensures _ c.if-entry-eq-PLAIN.true))

pub within-returns-else-k-gt0 : goal.within-returns-else-k-gt0
within-returns-else-k-gt0 t c =
    let x = c.requires in
    let under = under_innermost _ _ _ c.innermost-under.ensures in
    let entry = c.entry_at-entry.ensures in
    rw (le-ltb 0 c.args.k c.if-k-gt0.false)
    (under_within _ _ _ under _ _ (record_none _ _ _ entry _ c.if-entry-eq-PLAIN.false (under_record _ _ _ under _ entry x.0 x.1) (omega arith)))

pub within-fields_within-requires : goal.within-fields_within-requires
within-fields_within-requires t c =
    let x = c.requires in
    let under = under_innermost _ _ _ c.innermost-under.ensures in
    let r = under_inside _ _ _ under x.0 x.1 in
    (omega (arith, r.0, r.1), under_listed _ _ _ under _ c.entry_at-entry.ensures c.if-entry-eq-PLAIN.false x)

pub within-returns-then-k-gt0 : goal.within-returns-then-k-gt0
within-returns-then-k-gt0 t c =
    let x = c.requires in
    let under = under_innermost _ _ _ c.innermost-under.ensures in
    let entry = c.entry_at-entry.ensures in
    under_within _ _ _ under _ _ (record_within _ _ _ entry _ c.if-entry-eq-PLAIN.false (under_record _ _ _ under _ entry x.0 x.1) (omega arith) _ c.fields_within.ensures)
