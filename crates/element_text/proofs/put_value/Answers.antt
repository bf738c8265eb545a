-- The word, and the value by its kind.
use mathlib.Core.List.{[], ◌∷◌}
use Rattle.decimal.specs.Decimal.{printed}
use Rattle.emit.proofs.Pieces.{emits_then}
use Rattle.element_text.specs.Text.{signed_text}
use Rattle.element_text.proofs.Signed.{emits_reread, time_reread}
use Rattle.element_text.proofs.Values.{value_is, one_float, two_floats}
use Rattle.element_text.proofs.put_value.Goals as goal

pub returns-in-Bool : goal.returns-in-Bool
returns-in-Bool c = value_is c.in-Bool.is c.put_truth.ensures

pub returns-in-Signed : goal.returns-in-Signed
returns-in-Signed c = value_is c.in-Signed.is (emits_then (λ x. 115 ∷ 105 ∷ 103 ∷ 110 ∷ 101 ∷ 100 ∷ 32 ∷ x) (signed_text c.in-Signed.n) _ _ _ _ _ _ c.put_bytes-p.ensures (emits_reread c.in-Signed.n (record { sfits = c.in-Signed.known_told-in-Signed-1-own.given.0.1 }) _ _ _ _ c.put_signed.ensures))

pub returns-in-Unsigned : goal.returns-in-Unsigned
returns-in-Unsigned c = value_is c.in-Unsigned.is (emits_then (λ x. 117 ∷ 110 ∷ 115 ∷ 105 ∷ 103 ∷ 110 ∷ 101 ∷ 100 ∷ 32 ∷ x) (printed _) _ _ _ _ _ _ c.put_bytes-p-in-Unsigned.ensures c.put_count.ensures)

pub returns-in-Single : goal.returns-in-Single
returns-in-Single c = value_is c.in-Single.is (one_float (115 ∷ 105 ∷ 110 ∷ 103 ∷ 108 ∷ 101 ∷ 32 ∷ []) _ _ _ _ _ c.float_parts.ensures c.put_float_after.ensures)

pub returns-in-Double : goal.returns-in-Double
returns-in-Double c = value_is c.in-Double.is (one_float (100 ∷ 111 ∷ 117 ∷ 98 ∷ 108 ∷ 101 ∷ 32 ∷ []) _ _ _ _ _ c.float_parts-in-Double.ensures c.put_float_after-in-Double.ensures)

pub returns-in-SinglePair : goal.returns-in-SinglePair
returns-in-SinglePair c = value_is c.in-SinglePair.is (two_floats (115 ∷ 105 ∷ 110 ∷ 103 ∷ 108 ∷ 101 ∷ 45 ∷ 112 ∷ 97 ∷ 105 ∷ 114 ∷ 32 ∷ []) _ _ _ _ _ _ _ c.float_parts-in-SinglePair.ensures c.float_parts-in-SinglePair-2.ensures c.put_pair_after.ensures)

pub returns-in-DoublePair : goal.returns-in-DoublePair
returns-in-DoublePair c = value_is c.in-DoublePair.is (two_floats (100 ∷ 111 ∷ 117 ∷ 98 ∷ 108 ∷ 101 ∷ 45 ∷ 112 ∷ 97 ∷ 105 ∷ 114 ∷ 32 ∷ []) _ _ _ _ _ _ _ c.float_parts-in-DoublePair.ensures c.float_parts-in-DoublePair-2.ensures c.put_pair_after-in-DoublePair.ensures)

pub returns-in-Time : goal.returns-in-Time
returns-in-Time c = value_is c.in-Time.is (time_reread c.in-Time.n c.in-Time.units (record { sfits = c.in-Time.known_told-in-Time-1-own.given.0.1 }) _ _ _ c.put_time.ensures)
