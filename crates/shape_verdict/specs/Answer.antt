-- What a verdict on a dimension, and on a shape, means: the value, or document 01's number. Refusal 11: "shape or sub-shape not a list or tuple; member not an integer, or
-- negative". Refusal 12: "dimension over 2^64-1".
use Rattle.refusal.specs.declared.Refusal.{Refusal}
use Rattle.std.specs.Prelude.{ℕ, Err, Ok, Result}
use Rattle.shape_verdict.specs.declared.Outline.{Outline}

-- how many dimensions a good verdict has seen
abbrev pub rank_of : Result Outline Refusal → ℕ
rank_of (Ok o) = o.rank
rank_of (Err why) = 0
