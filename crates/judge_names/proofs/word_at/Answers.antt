-- The kind of the first byte decides.
use borrow.Enum.Refused.{opened}
use mathlib.Core.Path.{sym, ap, ◌∙◌}
use Rattle.judge_names.specs.Answer.{word_of}
use Rattle.judge_names.proofs.Words.{no_word, order_true, order_false, order_other}
use Rattle.judge_names.proofs.word_at.Goals as goal

pub returns-in-TrueWord : goal.returns-in-TrueWord
returns-in-TrueWord c =
    let a = c.args in
    let hk = c.kind_at.ensures in
    record { word_at = (λ k n e h. sym (order_true k a.text.now a.at e n h _ hk c.in-TrueWord.is)); value = ap word_of (sym c.in-TrueWord.is ∙ hk) }

pub returns-in-FalseWord : goal.returns-in-FalseWord
returns-in-FalseWord c =
    let a = c.args in
    let hk = c.kind_at.ensures in
    record { word_at = (λ k n e h. sym (order_false k a.text.now a.at e n h _ hk c.in-FalseWord.is)); value = ap word_of (sym c.in-FalseWord.is ∙ hk) }

pub returns-in-Square : goal.returns-in-Square
returns-in-Square c =
    let a = c.args in
    let hk = c.kind_at.ensures in
    record { word_at = (λ k n e h. sym (order_other k a.text.now a.at e n h _ hk (opened c.in-Square.in-Square-own.keys3))); value = no_word c.kind_at.result (opened c.in-Square.in-Square-own.keys3) ∙ ap word_of hk }
