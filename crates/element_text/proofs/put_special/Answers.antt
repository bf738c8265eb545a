-- By the fraction.
use mathlib.Core.List.{◌∷◌}
use lib.Dec.{eqb}
use borrow.Author.Tests.{eq-eqb, ne_eqb}
use Rattle.emit.proofs.Pieces.{emits_then}
use Rattle.element_text.specs.Hexadecimal.{hex_digits}
use Rattle.element_text.proofs.Pieces.{emits_if, emits_else}
use Rattle.element_text.proofs.put_special.Goals as goal

pub returns-then-p-eq0 : goal.returns-then-p-eq0
returns-then-p-eq0 c = emits_if (λ x. 105 ∷ 110 ∷ 102 ∷ x) (λ x. 110 ∷ 97 ∷ 110 ∷ 40 ∷ 48 ∷ 120 ∷ hex_digits c.args.p.digits c.args.p.fraction (41 ∷ x)) (eqb c.args.p.fraction 0) _ _ _ _ (eq-eqb _ 0 c.if-p-eq0.true) c.put_bytes.ensures

pub returns : goal.returns
returns c = emits_else (λ x. 105 ∷ 110 ∷ 102 ∷ x) (λ x. 110 ∷ 97 ∷ 110 ∷ 40 ∷ 48 ∷ 120 ∷ hex_digits c.args.p.digits c.args.p.fraction (41 ∷ x)) (eqb c.args.p.fraction 0) _ _ _ _ (ne_eqb _ 0 c.if-p-eq0.false)
    (emits_then (λ x. 110 ∷ 97 ∷ 110 ∷ 40 ∷ 48 ∷ 120 ∷ hex_digits c.args.p.digits c.args.p.fraction x) (λ x. 41 ∷ x) _ _ _ _ _ _
    (emits_then (λ x. 110 ∷ 97 ∷ 110 ∷ 40 ∷ 48 ∷ 120 ∷ x) (hex_digits c.args.p.digits c.args.p.fraction) _ _ _ _ _ _ c.put_bytes-inside.ensures c.put_hex-after_fraction.ensures) c.put.ensures)
