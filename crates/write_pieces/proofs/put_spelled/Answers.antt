-- `write_pieces::put_spelled` meets its contract: the byte itself, or a backslash and the letter.
use mathlib.Core.Path.{sym}
use Rattle.write_pieces.proofs.Quoted.{spelled_raw, spelled_escape}
use Rattle.write_pieces.proofs.put_spelled.Goals as goal

pub returns-in_default : goal.returns-in_default
returns-in_default c = spelled_raw _ _ _ _ _ (sym c.in_default.ensures.is) c.put.ensures

pub returns : goal.returns
returns c = spelled_escape _ _ _ _ _ _ _ _ c.in-Some.ensures.some (sym c.in-Some.ensures.is) c.put-after_backslash.ensures c.put-2.ensures
