-- `write_padding::put_prefix` meets its contract, piece by piece.
use Rattle.write_padding.proofs.Texts.{prefix_emits, byte_width}
use native.Mathlib.Omega.{arith}
use Rattle.write_padding.proofs.put_prefix.Goals as goal

pub overflow_cast-length_width : goal.overflow_cast-length_width
overflow_cast-length_width c = omega (arith, byte_width c.args.version _ c.length_width.ensures)

pub returns : goal.returns
returns c = prefix_emits c.args.version c.args.n _ _ _ _ _ _ _ _ _ _ _ _ c.major.ensures c.length_width.ensures c.put_bytes-after_magic.ensures c.put-after_major.ensures c.put-after_minor.ensures c.put.ensures
