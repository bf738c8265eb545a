-- What four bytes mean: a code point, or 29. The other answers of this crate are counts (refusal/specs/Answers.antt). No two answers mean the same
-- (proofs/Outcomes.antt).
use Rattle.std.specs.Prelude.{ℕ, None, Some, Option}
use Rattle.counts.specs.Outcome.{Outcome, gives, refused}

-- an answer of `point_at`
abbrev pub point_answer : Option ℕ → Outcome ℕ
point_answer (Some c) = gives c
point_answer None = refused 29
