-- `list_record::put_strides` meets its contract: the strides are found, and then put as a shape is.
use mathlib.Core.Path.{refl}
use Rattle.list_text.proofs.Text.{strides_held, strides_known}
use Rattle.list_record.proofs.put_strides.Goals as goal

pub returns : goal.returns
returns c = strides_known _ _ _ _ _ _ (strides_held c.args.order c.args.shape.now _ _ _ refl c.requires c.strides.ensures) c.put_row.ensures
