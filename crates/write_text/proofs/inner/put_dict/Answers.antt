-- `write_text::inner::put_dict` meets its contract, piece by piece.
use Rattle.write_text.proofs.Texts.{dict_emits}
use Rattle.write_text.proofs.inner.put_dict.Goals as goal

pub put_descr-descr-requires : goal.put_descr-descr-requires
put_descr-descr-requires c = c.requires

pub returns : goal.returns
returns c = λ d s. dict_emits d c.args.given.shape.now c.args.given.order _ _ _ _ _ _ _ _ c.put_bytes-after_key.ensures (c.put_descr-descr.ensures d s).emits c.put_rest.ensures
