-- The bytes that crate type_str counts are the size.
use mathlib.Core.Path.{sym, ap, ◌∙◌}
use Rattle.descr_totals.proofs.PlainTotals.{plain_totals, plain_totals_lem}
use Rattle.descr_totals.proofs.plain.Goals as goal

pub returns-in-Sized : goal.returns-in-Sized
returns-in-Sized c = ap plain_totals (sym c.in-Sized.is ∙ c.num_bytes.ensures) ∙ plain_totals_lem c.args.t

pub returns-in-Unsized : goal.returns-in-Unsized
returns-in-Unsized c = ap plain_totals (sym c.in-Unsized.is ∙ c.num_bytes.ensures) ∙ plain_totals_lem c.args.t

pub returns-in-TooLarge : goal.returns-in-TooLarge
returns-in-TooLarge c = ap plain_totals (sym c.in-TooLarge.is ∙ c.num_bytes.ensures) ∙ plain_totals_lem c.args.t
