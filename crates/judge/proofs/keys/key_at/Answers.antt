-- What is no string has no name; a string is scanned once, and its bytes are the part of the text after its quote, or are decoded.
use borrow.Enum.Refused.{opened}
use native.Mathlib.Omega.{arith}
use mathlib.Core.Path.{refl}
use Rattle.literal_bytes.proofs.Positions.{kind_in}
use Rattle.literal_bytes.proofs.Ends.{stops}
use Rattle.judge.proofs.Braces.{not_a_string}
use Rattle.judge.proofs.KeyAt.{begins_string, begins_other, key_fault, key_string, raw_within, raw_named}
use Rattle.judge.proofs.keys.key_at.Goals as goal

pub returns-then-not-string_at : goal.returns-then-not-string_at
returns-then-not-string_at c =
    let a = c.args in
    let no = begins_other a.text.now a.at _ c.string_at.ensures c.if-not-string_at.true-raw in
    record { begins = c.key.ensures; named = λ k n e h. not_a_string k a.text.now a.at e n h no }

pub overflow_add-from : goal.overflow_add-from
overflow_add-from c =
    let a = c.args in
    let z = begins_string a.text.now a.at _ c.string_at.ensures c.if-not-string_at.false-raw in
    let lt = kind_in a.text.now a.at z refl in
    omega arith

pub bounds-text-at : goal.bounds-text-at
bounds-text-at c =
    let a = c.args in
    let z = begins_string a.text.now a.at _ c.string_at.ensures c.if-not-string_at.false-raw in
    kind_in a.text.now a.at z refl

pub returns-in_default : goal.returns-in_default
returns-in_default c =
    let a = c.args in
    let z = begins_string a.text.now a.at _ c.string_at.ensures c.if-not-string_at.false-raw in
    let r = c.scan_at-s in
    key_fault a.text.now a.at z r.result r.ensures a.room _ (stops r.result.ended (opened c.in_default.in_default-own.keys2))

pub returns-then-s : goal.returns-then-s
returns-then-s c =
    let a = c.args in
    let z = begins_string a.text.now a.at _ c.string_at.ensures c.if-not-string_at.false-raw in
    let r = c.scan_at-s in
    key_string a.text.now a.at z r.result r.ensures a.room _ _ _ c.in-Value.is c.colon_at-begins.ensures c.name_at.ensures

pub overflow_add-to : goal.overflow_add-to
overflow_add-to c =
    let a = c.args in
    let z = begins_string a.text.now a.at _ c.string_at.ensures c.if-not-string_at.false-raw in
    let r = c.scan_at-s in
    let i = raw_within a.text.now a.at z r.result r.ensures c.if-s.false in
    omega arith

pub slice_bounds-key_of-end : goal.slice_bounds-key_of-end
slice_bounds-key_of-end c =
    let a = c.args in
    let z = begins_string a.text.now a.at _ c.string_at.ensures c.if-not-string_at.false-raw in
    let r = c.scan_at-s in
    raw_within a.text.now a.at z r.result r.ensures c.if-s.false

pub returns : goal.returns
returns c =
    let a = c.args in
    let s = a.text.now in
    let z = begins_string a.text.now a.at _ c.string_at.ensures c.if-not-string_at.false-raw in
    let r = c.scan_at-s in
    let n = raw_named s a.at z r.result r.ensures c.if-s.false _ c.key_of.ensures in
    key_string s a.at z r.result r.ensures a.room _ _ _ c.in-Value.is c.colon_at-begins.ensures n
