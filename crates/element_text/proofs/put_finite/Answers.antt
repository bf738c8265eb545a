-- One part after the other.
use Rattle.element_text.proofs.Values.{finite_parts}
use Rattle.element_text.proofs.put_finite.Goals as goal

pub returns : goal.returns
returns c = finite_parts c.args.p _ _ _ _ _ _ _ _ _ _ _ _ _ _ c.put_bytes-after_prefix.ensures c.lead_digit.ensures c.put-after_lead.ensures c.put-after_point.ensures c.put_hex-after_digits.ensures c.put-after_p.ensures c.shown_exponent.ensures c.put_exponent.ensures
