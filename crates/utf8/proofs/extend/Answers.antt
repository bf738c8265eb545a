-- `utf8::extend` meets its contract: each return is in one case of `extend`.
use mathlib.Core.Path.{sym}
use mathlib.Core.Logic.{⊎_elim}
use Rattle.utf8.proofs.Decoding.{extend_is, extend_none, extend_low, extend_high}
use Rattle.utf8.proofs.extend.Goals as goal

pub returns-then-byte-lt192 : goal.returns-then-byte-lt192
returns-then-byte-lt192 c = sym (extend_is _ _ c.if-value-lt1114112.true c.if-byte-ge128.true c.if-byte-lt192.true)

pub returns-else-value-lt1114112 : goal.returns-else-value-lt1114112
returns-else-value-lt1114112 c =
    ⊎_elim
    (λ h. sym (extend_high _ _ h.0 h.2))
    (⊎_elim (λ h. sym (extend_low _ _ h.0 h.1)) (λ h. sym (extend_none _ _ h)))
    c.else-value-lt1114112.either
