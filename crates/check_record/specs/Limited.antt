-- Document 01, "The refusal numbers": "Places: the given record's 27, 13, 20, 21, 22". Of these the four before 22, of a dtype and the shape beside it,
-- by the tests of `limited` (dtype/specs/Limits.antt).
use Rattle.std.specs.Prelude.{ℕ, List}
use Rattle.counts.specs.Outcome.{Outcome, gives, then}
use Rattle.dtype.specs.Dtype.{Dtype}
use Rattle.dtype.specs.Limits.{unless_over}
use Rattle.check_table.specs.Reading.{read_dtype}

-- the dtype of a table and its names beside a shape, or the first of 27, 13, 20, 21 that applies
unfoldable pub limited_dtype : (table names shape : List ℕ) → Outcome Dtype
limited_dtype t ns s = then (read_dtype t ns) (λ d. unless_over d s (gives d))
