-- How the outcome of a call is returned: in Rattle by an answer, in C by a number and, where it is 0, by values in lent numbers (`code`,
-- npy_codes/specs/Codes.antt). What a claim concludes of a Rattle function and of its C function is stated once, for either door.
use Rattle.std.specs.Prelude.{ℕ, Bool, List, eqb}
use Rattle.counts.specs.Outcome.{Outcome, given, afterwards}
use Rattle.npy_codes.specs.Codes.{code}

-- what is returned for an outcome, and which results are successes
pub record Door (B R : Type 0) : Type 0 where
  pub returned : Outcome B → R
  pub success : R → Bool

-- a Rattle function: what its answer means (`answer`, `bytes_answer` ..) is the outcome itself
abbrev pub in_rattle : {B : Type 0} → Door B (Outcome B)
in_rattle = record { returned = λ o. o; success = given }

-- a C function: the number, and the lent numbers afterwards
abbrev pub in_c : {B : Type 0} → (values : B → List ℕ) (said : List ℕ) → Door B (ℕ × List ℕ)
in_c values said = record { returned = λ o. (code o, afterwards (λ a old. values a) o said); success = λ y. eqb y.0 0 }
