-- `check_record::check_dtype` meets its contract: each answer by the tests that led there.
use Rattle.check_record.proofs.DtypeChecks.{check_27, agrees_all, check_13, check_13_levels, check_20, check_20_names, check_21, check_within}
use Rattle.check_table.proofs.Passes.{read_27, read_gives}
use Rattle.check_table.specs.Reading.{read_dtype}
use Rattle.dtype.specs.Dtype.{Dtype}
use Rattle.counts.specs.Outcome.{gives}
use borrow.Author.Tests.{not-true, not-false}
use native.Mathlib.Omega.{arith}
use mathlib.Core.Path.{◌≡◌, refl, sym, ◌∙◌}
use Rattle.check_record.proofs.check_dtype.Goals as goal
use Rattle.check_record.proofs.check_dtype.Goals.{Else-not-is_dtype}

-- what is known once a dtype is read
read : (c : goal.Else-not-is_dtype) → (d : Dtype) × (read_dtype c.args.table.now c.args.names.now ≡ gives d)
read c = read_gives _ (not-true _ (sym c.is_dtype.ensures ∙ not-false _ c.if-not-is_dtype.false-raw))

pub returns-then-not-is_dtype : goal.returns-then-not-is_dtype
returns-then-not-is_dtype c = check_27 _ _ _ (read_27 _ _ (not-false _ (sym c.is_dtype.ensures ∙ not-true _ c.if-not-is_dtype.true-raw)))

pub returns-then-shape-gt-MOST_DIMENSIONS : goal.returns-then-shape-gt-MOST_DIMENSIONS
returns-then-shape-gt-MOST_DIMENSIONS c = let r = read (goal.at.returns-then-shape-gt-MOST_DIMENSIONS c).Else-not-is_dtype in check_13 _ _ _ r.0 r.1 _ refl (omega (arith, c.if-shape-gt-MOST_DIMENSIONS.true))

pub returns-then-too_deep : goal.returns-then-too_deep
returns-then-too_deep c = let r = read (goal.at.returns-then-too_deep c).Else-not-is_dtype in check_13_levels _ _ _ r.0 r.1 _ refl (sym c.if-too_deep.true ∙ c.too_deep.ensures)

pub returns-then-entries-gt-MOST_ENTRIES : goal.returns-then-entries-gt-MOST_ENTRIES
returns-then-entries-gt-MOST_ENTRIES c = let r = read (goal.at.returns-then-entries-gt-MOST_ENTRIES c).Else-not-is_dtype in check_20 _ _ _ r.0 r.1 _ refl (omega (arith, c.if-shape-gt-MOST_DIMENSIONS.false)) (sym c.if-too_deep.false ∙ c.too_deep.ensures) c.if-entries-gt-MOST_ENTRIES.true

pub returns-then-names-gt-MOST_NAMES : goal.returns-then-names-gt-MOST_NAMES
returns-then-names-gt-MOST_NAMES c = let r = read (goal.at.returns-then-names-gt-MOST_NAMES c).Else-not-is_dtype in check_20_names _ _ _ r.0 r.1 _ refl (omega (arith, c.if-shape-gt-MOST_DIMENSIONS.false)) (sym c.if-too_deep.false ∙ c.too_deep.ensures) c.if-names-gt-MOST_NAMES.true

pub over_size-requires : goal.over_size-requires
over_size-requires c = let r = read (goal.at.over_size-requires c).Else-not-is_dtype in agrees_all _ _ c.args.shape.now r.0 r.1 _ refl

pub returns-then-over_size : goal.returns-then-over_size
returns-then-over_size c = let r = read (goal.at.returns-then-over_size c).Else-not-is_dtype in check_21 _ _ _ r.0 r.1 _ refl (omega (arith, c.if-shape-gt-MOST_DIMENSIONS.false)) (sym c.if-too_deep.false ∙ c.too_deep.ensures) c.if-entries-gt-MOST_ENTRIES.false c.if-names-gt-MOST_NAMES.false (sym c.if-over_size.true ∙ c.over_size.ensures)

pub returns : goal.returns
returns c = let r = read (goal.at.returns c).Else-not-is_dtype in check_within _ _ _ r.0 r.1 _ refl (omega (arith, c.if-shape-gt-MOST_DIMENSIONS.false)) (sym c.if-too_deep.false ∙ c.too_deep.ensures) c.if-entries-gt-MOST_ENTRIES.false c.if-names-gt-MOST_NAMES.false (sym c.if-over_size.false ∙ c.over_size.ensures) _ c.item_size.ensures
