-- `write::put_header` meets its contract: prefix, text, padding.
use Rattle.emit.proofs.Pieces.{emits_then}
use Rattle.write.proofs.put_header.Goals as goal

pub returns : goal.returns
returns c = λ x e. emits_then _ _ _ _ _ _ _ _ (emits_then _ _ _ _ _ _ _ _ c.put_prefix-after_prefix.ensures (c.put_text-after_text.ensures x e)) c.put_padding.ensures
