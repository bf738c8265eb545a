-- `TypeStr::num_bytes` meets its contract: U, or any other letter; that of an object is found.
use Rattle.std.proofs.Common.{rules}
use mathlib.Core.Path.{sym, ◌∙◌}
use native.Mathlib.Omega.{arith}
use Rattle.type_str.proofs.Checks.{unicode_bytes, plain_bytes_lem}
use Rattle.type_str.proofs.TypeStr.num_bytes.Goals as goal

pub returns-then-is_unicode : goal.returns-then-is_unicode
returns-then-is_unicode c = unicode_bytes _ _ (sym c.is_object.ensures ∙ c.if-is_object.false) (sym c.is_unicode.ensures ∙ c.if-is_unicode.true) (rw (← c.in_bytes.ensures) (search rules))

pub returns : goal.returns
returns c = plain_bytes_lem _ (sym c.is_object.ensures ∙ c.if-is_object.false) (sym c.is_unicode.ensures ∙ c.if-is_unicode.false) (omega arith)
