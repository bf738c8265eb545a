-- `type_units::from_text` meets its contract: a text that no arm names is no unit's. The other arms are found.
use native.Mathlib.Omega.{arith}
use mathlib.Core.Path.{sym, ap, ◌∙◌}
use Rattle.type_units.specs.Units.{units_of}
use Rattle.type_units.proofs.Tables.{three_bytes, four_bytes, no_open, no_s_two, no_letter_one, no_letter_two, no_units}
use Rattle.type_units.proofs.from_text.Goals as goal

-- one or two bytes
pub returns-in_default : goal.returns-in_default
returns-in_default c = sym (no_units _ (λ e. omega arith) (λ e. omega arith) (λ e. omega arith))

-- three bytes: no letter of a unit, and no bracket
pub returns-in_default-9 : goal.returns-in_default-9
returns-in_default-9 c =
    let no = c.in_default.in_default-own.rest in
    sym (ap units_of (three_bytes c.args.text.now (omega arith)) ∙ no_letter_one _ _ _ no.0.0.0.0.0.0.1 no.0.0.0.0.0.1 no.0.0.0.0.1 no.0.0.0.1 no.0.0.1 no.0.1 no.1)

pub returns-in_default-10 : goal.returns-in_default-10
returns-in_default-10 c = sym (ap units_of (three_bytes c.args.text.now (omega arith)) ∙ no_open _ _ c.in_default.in_default-own.rest.1)

-- four bytes: no `s` after `m`, no letter of a unit, and no bracket
pub returns-in_default-12 : goal.returns-in_default-12
returns-in_default-12 c = sym (ap units_of (four_bytes c.args.text.now (omega arith)) ∙ no_s_two _ _ _ _ c.in_default.in_default-own.rest.1)

pub returns-in_default-23 : goal.returns-in_default-23
returns-in_default-23 c =
    let no = c.in_default.in_default-own.rest in
    sym (ap units_of (four_bytes c.args.text.now (omega arith)) ∙ no_letter_two _ _ _ _ no.0.0.0.0.0.1 no.0.0.0.0.1 no.0.0.0.1 no.0.0.1 no.0.1 no.1)

pub returns-in_default-24 : goal.returns-in_default-24
returns-in_default-24 c = sym (ap units_of (four_bytes c.args.text.now (omega arith)) ∙ no_open _ _ c.in_default.in_default-own.rest.1)

-- five bytes or more
pub returns-in_default-25 : goal.returns-in_default-25
returns-in_default-25 c = sym (no_units _ (λ e. omega arith) (λ e. omega arith) (λ e. omega arith))
