-- What a verdict means: the totals, or document 01's number, which is one of 11 "shape or sub-shape not a list or tuple; member not an integer, or negative", 12 "dimension
-- over 2^64-1", 14 "descr or field of wrong form", 15 to 19 "type string: syntax, size over 2^64-1, byte order, size, units". No two verdicts mean the same
-- (proofs/Outcomes.antt).
use Rattle.counts.specs.Outcome.{Outcome, then, each}
use Rattle.descr_totals.specs.declared.Totals.{Totals}
use Rattle.descr_totals.specs.Totals.{together}

-- two parts, one after the other: the first refusal stays
abbrev pub both : Outcome Totals → Outcome Totals → Outcome Totals
both a b = then a (λ t. each (together t) b)
