use native.Mathlib.Omega.{arith}
use mathlib.Core.Path.{◌∙◌}
use Rattle.emit.proofs.Pieces.{emits_length, emits_byte}
use Rattle.element_text.proofs.Pieces.{hex_none, hex_more}
use Rattle.element_text.proofs.+put_hex.Goals as goal

pub returns-then-digits-eq0 : goal.returns-then-digits-eq0
returns-then-digits-eq0 t c = hex_none _ _ _ _ c.if-digits-eq0.true

pub put_hex-p-requires : goal.put_hex-p-requires
put_hex-p-requires t c = omega arith

pub shape_of-out : goal.shape_of-out
shape_of-out t c = emits_length _ _ _ _ _ c.put.ensures ∙ emits_length _ _ _ _ _ c.put_hex-p.ensures

pub returns : goal.returns
returns t c = hex_more _ _ _ _ _ _ _ _ c.if-digits-eq0.false c.put_hex-p.ensures (emits_byte _ _ _ _ _ _ c.hex_digit.ensures c.put.ensures)
