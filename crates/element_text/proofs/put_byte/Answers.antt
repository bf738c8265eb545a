-- By two tests.
use mathlib.Core.Path.{sym, ◌∙◌}
use Rattle.element_text.proofs.Strings.{byte_quoted, byte_plain, byte_hex}
use Rattle.element_text.proofs.put_byte.Goals as goal

pub returns-then-is_quoted : goal.returns-then-is_quoted
returns-then-is_quoted c = byte_quoted _ _ _ _ _ _ _ (sym c.is_quoted.ensures ∙ c.if-is_quoted.true) c.put-after_backslash.ensures c.put.ensures

pub returns-then-is_printed : goal.returns-then-is_printed
returns-then-is_printed c = byte_plain _ _ _ _ _ (sym c.is_quoted.ensures ∙ c.if-is_quoted.false) (sym c.is_printed.ensures ∙ c.if-is_printed.true) c.put-then-is_printed.ensures

pub returns : goal.returns
returns c = byte_hex _ _ _ _ _ _ _ (sym c.is_quoted.ensures ∙ c.if-is_quoted.false) (sym c.is_printed.ensures ∙ c.if-is_printed.false) c.put_bytes-inside.ensures c.put_hex.ensures
