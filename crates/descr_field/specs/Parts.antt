-- The verdicts on a field's name and on what is after its inner descr, by the text. Document 01, "The record": "Each record item is a list or tuple of 2 or 3: name string,
-- inner descr, and perhaps a sub-shape." Where there is a fault of the literal they say nothing of a value: the caller looks at the end first.
use Rattle.std.specs.Prelude.{ℕ, ◌+◌, List, cond, length}
use Rattle.counts.specs.Outcome.{Outcome, gives, refused, then, each}
use Rattle.record.specs.Dimensions.{sub_shape}
use Rattle.literal_tokens.specs.Node.{Node}
use Rattle.literal_bytes.specs.Got.{Got, got, fault, deep}
use Rattle.literal_bytes.specs.Text.{byte_at, kind_of}
use Rattle.literal_escapes.specs.Strings.{spelled}
use Rattle.literal.specs.Literal.{value}
use Rattle.literal_bytes.specs.Gaps.{then_at}
use Rattle.literal.specs.Forget.{forget}
use Rattle.literal_bytes.specs.declared.Gap.{Gap}
use Rattle.literal_bytes.specs.declared.Gap.TheVariants.{Shut, Item, Stray}
use Rattle.shape_verdict.specs.declared.Outline.{Outline}
use Rattle.shape_verdict.specs.Outline.{outline_of}
use Rattle.descr_field.specs.Begins.{is_string}
use Rattle.descr_totals.specs.declared.Totals.{Totals}
use Rattle.descr_totals.specs.Totals.{name_totals, arrayed}
use Rattle.descr_totals.specs.Verdict.{both}

-- the value at `at`, as a name: a string
abbrev pub name_verdict : List ℕ → ℕ → Outcome Totals
name_verdict s at = cond (is_string (kind_of (byte_at s at))) (gives (name_totals (length (spelled (byte_at s at) s (at + 1)).bytes))) (refused 14)

-- the verdict on a type and then on its sub-shape
abbrev pub levels_over : Outcome Totals → Outcome Outline → Outcome Totals
levels_over y z = then y (λ t. each (λ o. arrayed o t) z)

-- after a sub-shape: nothing more
abbrev pub last_by : Outcome Totals → Gap → Outcome Totals
last_by o (Shut e) = o
last_by o (Item p) = refused 14
last_by o (Stray p) = o

-- a value as the sub-shape, x the verdict on the name and y that on the inner descr; f is the gap after it
abbrev pub shape_by : Outcome Totals → Outcome Totals → (ℕ → Gap) → Got Node → Outcome Totals
shape_by x y f (got n q) = last_by (both x (levels_over y (each outline_of (sub_shape (forget n))))) (f q)
shape_by x y f (fault p) = refused 14
shape_by x y f (deep p) = refused 14

-- from the gap after the inner descr on: nothing more, or its sub-shape
abbrev pub after_inner_at : ℕ → List ℕ → ℕ → Outcome Totals → Outcome Totals → Gap → Outcome Totals
after_inner_at k s close x y (Shut e) = both x y
after_inner_at k s close x y (Item p) = shape_by x y (λ q. then_at s q close) (value k s p)
after_inner_at k s close x y (Stray p) = both x y
