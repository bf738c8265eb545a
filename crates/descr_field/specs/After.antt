-- The items of a bracket from a gap on, as crate literal reads them, and the gap after the first of them.
use Rattle.std.specs.Prelude.{ℕ, ◌+◌, List, cond, length, eqb}
use Rattle.literal_tokens.specs.Node.{Node}
use Rattle.literal_bytes.specs.Got.{Got}
use Rattle.literal.specs.Literal.{value}
use Rattle.literal_bytes.specs.Gaps.{gap_at, then_at, need_at}
use Rattle.literal.specs.Brackets.{items_by}
use Rattle.literal_bytes.specs.declared.Parsed.{Parsed}
use Rattle.literal_bytes.specs.declared.Parsed as parsed
use Rattle.literal_bytes.specs.declared.Gap.{Gap}
use Rattle.literal_bytes.specs.declared.Gap.TheVariants.{Stray}

-- the items from the gap on, where k brackets more may open
abbrev pub items_from : ℕ → List ℕ → ℕ → Gap → Got (List Node)
items_from k s close g = items_by (value k s) s close (length s + 2) g

-- the gap after the first item of a list or tuple; of a tuple it needs its comma: "one element needs its comma: `(3)` is no value"
abbrev pub comma_then : List ℕ → Parsed → Gap
comma_then s (parsed.Parsed.Value e) = gap_at s e 41
comma_then s (parsed.Parsed.Fault p) = Stray p
comma_then s (parsed.Parsed.Deep p) = Stray p

-- the gap after the first item of a list or tuple, by the bracket that closes it: `)` is 41, the comma 44
abbrev pub second_at : List ℕ → ℕ → ℕ → Gap
second_at s at close = cond (eqb close 41) (comma_then s (need_at s at 44)) (then_at s at close)
