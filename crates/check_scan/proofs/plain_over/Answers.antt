-- `check_scan::plain_over` meets its contract: only of `U` are there more bytes than the size.
use Rattle.counts.proofs.Counted.{none_test}
use Rattle.check_scan.proofs.Over.{unicode_over}
use Rattle.counts.specs.Counts.{bytes_over}
use mathlib.Core.Path.{refl, ap, ◌∙◌}
use Rattle.check_scan.proofs.plain_over.Goals as goal

pub returns-then-letter-eq-UNICODE : goal.returns-then-letter-eq-UNICODE
returns-then-letter-eq-UNICODE c = none_test bytes_over refl (λ a. refl) _ _ c.is_none.ensures ∙ ap bytes_over c.in_bytes.ensures ∙ unicode_over _ _ c.if-letter-eq-UNICODE.true
