-- `list_record::put_all` meets its contract: the lines in turn.
use native.Mathlib.Omega.{arith}
use Rattle.header_prefix.specs.Answer.{version_is}
use Rattle.list_text.proofs.Pieces.{version_known}
use Rattle.list_text.proofs.Text.{strided, all_there}
use Rattle.list_record.proofs.put_all.Goals as goal

pub put_strides-after_strides-requires : goal.put_strides-after_strides-requires
put_strides-after_strides-requires c = strided c.args.given.table.now c.args.given.names.now c.args.given.shape.now c.args.given.order _ _ _ c.requires.1

pub shape_of-out : goal.shape_of-out
shape_of-out c = omega (arith, c.out-1.given, c.out-2-1.given, c.out-3-1.given, c.out-4-1.given, c.out-5-1.given, c.out-6-1.given, c.out-7-1.given, c.out-8-1.given)

pub returns : goal.returns
returns c = λ d h. all_there c.args.given.table.now c.args.given.names.now c.args.given.shape.now c.args.given.order d _ _ h _ _ _ _ _ _ _ _ _ _ _ _ _ _ _ _ _ _ _ (version_known _ _ _ _ (version_is c.args.version) _ c.major.ensures c.put_between-after_version.ensures) c.put_order-after_order.ensures c.put_row-after_shape.ensures c.put_strides-after_strides.ensures c.put_between-after_count.ensures c.put_size-after_item.ensures c.put_between-after_data.ensures c.put_entries.ensures
