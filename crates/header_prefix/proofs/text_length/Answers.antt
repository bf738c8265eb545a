-- The length field: missing, over, too long, or a length.
use Prim.Native.Nat.{◌<◌, ◌≤◌}
use native.Mathlib.Omega.{arith}
use mathlib.Core.Path.{sym, subst, ◌∙◌}
use lib.ListN.{length}
use Rattle.header_prefix.specs.Answer.{version_is}
use Rattle.header_prefix.proofs.Bytes.{short_is_3, field_number, over_is_4, is_long_4, is_length}
use Rattle.header_prefix.proofs.text_length.Goals as goal

pub returns-then-file-start : goal.returns-then-file-start
returns-then-file-start c =
    let a = c.args in
    sym (short_is_3 (version_is a.version) a.file.now (subst (λ n. length a.file.now < n) c.text_start-start.ensures c.if-file-start.true))

pub returns-in_default : goal.returns-in_default
returns-in_default c =
    let a = c.args in
    let v = version_is a.version in
    let le = subst (λ n. n ≤ length a.file.now) c.text_start-start.ensures c.if-file-start.false in
    let h = field_number v a.file.now _ _ c.text_start-start.ensures c.read.ensures in
    sym (over_is_4 v a.file.now le (sym h ∙ c.in_default.is))

pub returns-then-length-gt-MOST_TEXT : goal.returns-then-length-gt-MOST_TEXT
returns-then-length-gt-MOST_TEXT c =
    let a = c.args in
    let v = version_is a.version in
    let le = subst (λ n. n ≤ length a.file.now) c.text_start-start.ensures c.if-file-start.false in
    let h = field_number v a.file.now _ _ c.text_start-start.ensures c.read.ensures in
    sym (is_long_4 v a.file.now _ le (sym h ∙ c.in-Some.is) (omega (arith, c.if-length-gt-MOST_TEXT.true)))

pub returns : goal.returns
returns c =
    let a = c.args in
    let v = version_is a.version in
    let le = subst (λ n. n ≤ length a.file.now) c.text_start-start.ensures c.if-file-start.false in
    let h = field_number v a.file.now _ _ c.text_start-start.ensures c.read.ensures in
    sym (is_length v a.file.now _ le (sym h ∙ c.in-Some.is) (omega (arith, c.if-length-gt-MOST_TEXT.false)))
