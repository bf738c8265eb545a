-- No brace; or a dict, whose pairs are walked over.
use borrow.Enum.Refused.{opened}
use Prim.Native.Nat.{◌-◌}
use native.Mathlib.Omega.{arith}
use mathlib.Core.Path.{refl, sym, ◌∙◌}
use Rattle.literal_grammar.specs.Value.{most_open}
use Rattle.literal_bytes.proofs.Positions.{kind_in}
use Rattle.judge.proofs.Seek.{dict_keys, dict_walked, no_dict}
use Rattle.judge.proofs.keys.keys.Goals as goal

pub returns-in_default : goal.returns-in_default
returns-in_default c =
    let a = c.args in
    let hk = c.kind_at-k.ensures in
    record { ended = c.value.ensures; keys = no_dict (most_open - 1) a.text.now a.at _ hk (opened c.in_default.in_default-own.keys2) _ refl refl refl refl }

pub overflow_add-at : goal.overflow_add-at
overflow_add-at c =
    let a = c.args in
    let hk = c.kind_at-k.ensures in
    let lt = kind_in a.text.now a.at (sym hk ∙ c.in-Curly.is) refl in
    omega arith

pub returns : goal.returns
returns c =
    let a = c.args in
    let s = a.text.now in
    let hk = c.kind_at-k.ensures in
    let z = c.in-Curly.is in
    let w = c.keys_from in
    record { ended = dict_walked (most_open - 1) s a.at _ hk z w.result w.ensures; keys = dict_keys (most_open - 1) s a.at _ hk z w.result w.ensures }
