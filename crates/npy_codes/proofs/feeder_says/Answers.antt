-- By the number of what is said: 0, 255, a refusal's number, or none of these.
use native.Mathlib.Omega.{arith}
use mathlib.Core.Path.{sym, ◌∙◌}
use Rattle.npy_codes.proofs.FeederNumbers.{says_more, says_header, says_refusal, says_none}
use Rattle.npy_codes.proofs.feeder_says.Goals as goal

pub returns-in-0 : goal.returns-in-0
returns-in-0 c = sym (says_more c.args.numbers c.in-0.is)

pub returns-in-255 : goal.returns-in-255
returns-in-255 c = c.header_said.ensures ∙ sym (says_header c.args.numbers c.in-255.is)

pub returns-in_default : goal.returns-in_default
returns-in_default c = sym (says_refusal c.args.numbers (λ z. omega (arith, z)) (λ z. omega (arith, z)) (sym c.is_refusal.ensures ∙ c.if-is_refusal.true))

pub returns-in_default-2 : goal.returns-in_default-2
returns-in_default-2 c = sym (says_none c.args.numbers (λ z. omega (arith, z)) (λ z. omega (arith, z)) (sym c.is_refusal.ensures ∙ c.if-is_refusal.false))
