-- The byte decides, as in the definition; past the end of the text the byte is 256, which is no escape.
use mathlib.Core.Path.{sym}
use lib.ListN.{get_or-eq_default}
use Rattle.literal_grammar.specs.Bytes.{is_escape}
use Rattle.literal_escapes.specs.Strings.{escape_at}
use Rattle.literal_bytes.proofs.Positions.{get_d_any}
use Rattle.literal_escapes.proofs.escape_at.Goals as goal

pub returns-then-text-at : goal.returns-then-text-at
unfolding escape_at is_escape
returns-then-text-at c = simp (escape_at, get_or-eq_default c.args.text.now 256 c.if-text-at.true)

pub returns-then-is_escape : goal.returns-then-is_escape
unfolding escape_at
returns-then-is_escape c = simp (escape_at, sym (get_d_any c.args.text.now c.args.at 0 256 c.if-text-at.false), sym c.is_escape.ensures, c.if-is_escape.true, c.unescape.ensures)

pub returns-else-is_escape : goal.returns-else-is_escape
unfolding escape_at
returns-else-is_escape c = simp (escape_at, sym (get_d_any c.args.text.now c.args.at 0 256 c.if-text-at.false), sym c.is_escape.ensures, c.if-is_escape.false)
