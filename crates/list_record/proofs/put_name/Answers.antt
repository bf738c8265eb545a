-- `listing::put_name` meets its contract: a field's name after a space, or nothing.
use borrow.Author.Tests.{not-true, not-false}
use Rattle.list_text.proofs.Pieces.{no_name, a_name}
use Rattle.list_record.proofs.put_name.Goals as goal

pub returns-then-not-field : goal.returns-then-not-field
returns-then-not-field c = no_name c.args.name.now _ _ c.args.field (not-true _ c.if-not-field.true-raw)

pub returns : goal.returns
returns c = a_name c.args.name.now _ _ c.args.field _ _ _ _ (not-false _ c.if-not-field.false-raw) c.put-at_name.ensures c.put_quoted.ensures
