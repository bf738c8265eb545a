-- `check_table::is_dtype` meets its contract: each test that fails rules out `Passes`, and all of them together are it.
use Rattle.check_table.proofs.Passes.{read_no, read_named, passes_first, passes_sound}
use Rattle.check_table.proofs.Tests.{fails}
use Rattle.counts.proofs.Alike.{true_false}
use Prim.Native.Nat.{◌*◌, ◌/◌}
use mathlib.Core.Path.{◌≡◌, sym, ap, ◌∙◌}
use mathlib.Core.Bool.{not}
use lib.ListN.{length}
use Rattle.dtype.specs.Record.{entry_width}
use native.Mathlib.Omega.{arith}
use borrow.Author.Tests.{eqb-true, eq-eqb}
use Rattle.check_table.proofs.is_dtype.Goals as goal
use Rattle.check_table.proofs.is_dtype.Goals.{then-n-ne0, else-n-ne0, then-table-n, else-table-n, then-first_fits, else-first_fits}

pub returns-then-entries_agree : goal.returns-then-entries_agree
returns-then-entries_agree c =
    elim c.if-first_fits.branch [
      | then-first_fits w ↦ elim c.if-table-n.branch [
        | then-table-n v ↦ elim c.if-n-ne0.branch [
          | then-n-ne0 u ↦
              read_named _ _ _ _ (eqb-true _ _ (sym u.value-is ∙ v.if-table-n.true)) (omega (arith, u.if-n-ne0.true))
              (rw v.entry_at.ensures at (v.first_fits.ensures.only (sym v.value-is ∙ w.if-first_fits.true)))
              (w.entries_agree.ensures.only (sym w.value-is ∙ c.if-entries_agree.true)) c.names_match.ensures
          | else-n-ne0 u ↦ true_false (sym v.if-table-n.true ∙ u.value-is ∙ ap not (eq-eqb _ _ u.if-n-ne0.false))
        ]
        | else-table-n v ↦ true_false (sym w.if-first_fits.true ∙ v.value-is ∙ v.if-table-n.false)
      ]
      | else-first_fits w ↦ true_false (sym c.if-entries_agree.true ∙ w.value-is ∙ w.if-first_fits.false)
    ]

pub returns-else-entries_agree : goal.returns-else-entries_agree
returns-else-entries_agree c =
    let n = length c.args.table.now / entry_width in
    c.if-entries_agree.false ∙ read_no _ _ (λ k p.
    let l : length c.args.table.now ≡ entry_width * n = omega (arith, p.long) in
    elim c.if-first_fits.branch [
      | then-first_fits w ↦ fails w.entries_agree.result w.entries_agree.ensures (sym w.value-is ∙ c.if-entries_agree.false) (passes_sound c.args.table.now c.args.names.now k n p l)
      | else-first_fits w ↦ elim c.if-table-n.branch [
        | then-table-n v ↦ fails v.first_fits.result v.first_fits.ensures (sym v.value-is ∙ w.if-first_fits.false) (passes_first c.args.table.now c.args.names.now k n p l v.entry_at.result v.entry_at.ensures)
        | else-table-n v ↦ elim c.if-n-ne0.branch [
          | then-n-ne0 u ↦ true_false (sym (eq-eqb _ _ l) ∙ sym u.value-is ∙ v.if-table-n.false)
          | else-n-ne0 u ↦ omega (arith, p.long, p.some, u.if-n-ne0.false)
        ]
      ]
    ])
