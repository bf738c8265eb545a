-- As a byte, or in UTF-8.
use mathlib.Core.Path.{sym}
use native.Mathlib.Omega.{arith}
use lib.Seq.{length-take-le}
use Rattle.element_text.proofs.Strings.{point_low, point_high, encoded_always, encoded}
use Rattle.element_text.proofs.put_point.Goals as goal

pub returns-then-c-lt-FIRST_PRINTED : goal.returns-then-c-lt-FIRST_PRINTED
returns-then-c-lt-FIRST_PRINTED c = point_low _ _ _ _ _ c.if-c-lt-FIRST_PRINTED.true c.put_byte.ensures

pub returns-in_default : goal.returns-in_default
returns-in_default c = encoded_always _ _ _ c.requires (omega arith) _ _ c.encode.ensures c.in_default.is

pub slice_bounds-four-end : goal.slice_bounds-four-end
slice_bounds-four-end c = (encoded _ _ _ c.requires (omega arith) _ _ c.encode.ensures c.in-Ok.is).inside

pub slice_bounds-put_bytes-end : goal.slice_bounds-put_bytes-end
slice_bounds-put_bytes-end c = sym (length-take-le _ _ (encoded _ _ _ c.requires (omega arith) _ _ c.encode.ensures c.in-Ok.is).inside)

pub returns : goal.returns
returns c = point_high _ _ _ _ _ c.if-c-lt-FIRST_PRINTED.false _ (encoded _ _ _ c.requires (omega arith) _ _ c.encode.ensures c.in-Ok.is).is c.put_bytes.ensures
