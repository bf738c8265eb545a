use Prim.Native.Nat.{ℕ}
use borrow.Enum.Refused.{opened}
use lib.ListN.{length}
use mathlib.Core.Path.{◌≡◌, sym, ap, ◌∙◌}
use mathlib.Core.Bool.{Bool, true, false, not}
use Rattle.literal.specs.Brackets.{pair_by}
use Rattle.literal.specs.Literal.{value as value_of}
use Rattle.literal.proofs.Steps.{turn_start, turn_from, turn_end, turn_stop, turn_less, turn_more, key_stop, key_colon, read_ahead, pair_stop, pair_more, gap_item, tuple_end, tuple_stop, tuple_comma, tuple_more, value_token, value_deep, value_list, value_tuple, value_dict}
use borrow.Author.Tests.{not-false, not-true}
use Rattle.literal_grammar.specs.Bytes.{is_open}
use native.Mathlib.Omega.{arith}
use lib.Dec.{lit<}
use Rattle.literal.proofs.Ends.{pair_ahead, value_ahead, key_ahead}
use Rattle.literal_bytes.proofs.Ends.{stops}
use Rattle.literal_bytes.specs.Gaps.{gap_at}
use Rattle.literal_bytes.proofs.GapEnds.{need_ahead}
use Rattle.literal_bytes.specs.Got.{pos}
use Rattle.literal_bytes.specs.Text.{byte_at}
use Rattle.literal_bytes.proofs.Positions.{open_in}
use Rattle.literal.proofs.+dict_key_list_pair_tuple_value.Goals as goal

-- a bracket opens at a byte for which the test returned so
pub opens : {b x : ℕ} {o : Bool} → b ≡ x → o ≡ is_open b → not o ≡ false → is_open x ≡ true
opens {o = o} seen said left = sym (ap is_open seen) ∙ sym said ∙ not-false o left

pub dict-loop-g-init : goal.dict-loop-g-init
dict-loop-g-init t c =
    let s = c.args.text.now in
    let rd = pair_by (value_of c.args.room s) s in
    turn_start rd s 125 c.args.from c.gap_at-g.result (lit< tt) c.gap_at-g.ensures

pub dict-returns-in_default : goal.dict-returns-in_default
dict-returns-in_default t c =
    let s = c.args.text.now in
    let rd = pair_by (value_of c.args.room s) s in
    turn_end rd s 125 c.args.from c.loop-g.g c.ended.result c.loop-g.invariant c.ended.ensures (opened c.in_default.in_default-own.keys2)

pub dict-pair-r-requires : goal.dict-pair-r-requires
dict-pair-r-requires t c =
    let s = c.args.text.now in
    let rd = pair_by (value_of c.args.room s) s in
    let from-p = turn_from rd s 125 c.args.from c.loop-g.g _ c.loop-g.invariant c.in-Item.is in
    omega arith

pub dict-returns-in_default-r : goal.dict-returns-in_default-r
dict-returns-in_default-r t c =
    let s = c.args.text.now in
    let rd = pair_by (value_of c.args.room s) s in
    c.same.ensures ∙ turn_stop rd s 125 c.args.from c.loop-g.g _ c.pair-r.result c.loop-g.invariant c.in-Item.is c.pair-r.ensures (opened c.in_default-r.in_default-r-own.keys2)

pub dict-loop-g-smaller : goal.dict-loop-g-smaller
dict-loop-g-smaller t c =
    let s = c.args.text.now in
    let rd = pair_by (value_of c.args.room s) s in
    turn_less rd s 125 c.args.from (pair_ahead (value_of c.args.room s) s (value_ahead c.args.room s)) (lit< tt) c.loop-g.g c.then_at-g.result _ _ c.pair-r.result c.in-Item.is c.in-Value.is c.pair-r.ensures c.then_at-g.ensures

pub dict-loop-g-preserved : goal.dict-loop-g-preserved
dict-loop-g-preserved t c =
    let s = c.args.text.now in
    let rd = pair_by (value_of c.args.room s) s in
    turn_more rd s 125 c.args.from (pair_ahead (value_of c.args.room s) s (value_ahead c.args.room s)) (lit< tt) c.loop-g.g c.then_at-g.result _ _ c.pair-r.result c.in-Item.is c.in-Value.is c.pair-r.ensures c.then_at-g.ensures c.loop-g.invariant

-- The needs of `key` in the cycle. Its value begins at the same place, where a value's measure is one lower. A value with a fault is the key's result; after any
-- other value the colon decides.
pub key-value-r-requires : goal.key-value-r-requires
key-value-r-requires t c = omega arith

pub key-returns-in_default : goal.key-returns-in_default
key-returns-in_default t c =
    let s = c.args.text.now in
    let at = c.args.at in
    let rd = value_of c.args.room s in
    key_stop rd s at c.value-r.result c.value-r.ensures (stops c.value-r.result (opened c.in_default.in_default-own.keys2))

pub key-returns : goal.key-returns
key-returns t c =
    let s = c.args.text.now in
    let at = c.args.at in
    let rd = value_of c.args.room s in
    let hr = sym c.in-Value.is ∙ c.value-r.ensures in
    c.colon_at.ensures ∙ key_colon rd s at _ hr

pub list-loop-g-init : goal.list-loop-g-init
list-loop-g-init t c =
    let s = c.args.text.now in
    let rd = value_of c.args.room s in
    turn_start rd s c.args.close c.args.from c.gap_at-g.result c.ranges.close.fits c.gap_at-g.ensures

pub list-returns-in_default : goal.list-returns-in_default
list-returns-in_default t c =
    let s = c.args.text.now in
    let rd = value_of c.args.room s in
    turn_end rd s c.args.close c.args.from c.loop-g.g c.ended.result c.loop-g.invariant c.ended.ensures (opened c.in_default.in_default-own.keys2)

pub list-value-r-requires : goal.list-value-r-requires
list-value-r-requires t c =
    let s = c.args.text.now in
    let rd = value_of c.args.room s in
    let from-p = turn_from rd s c.args.close c.args.from c.loop-g.g _ c.loop-g.invariant c.in-Item.is in
    omega arith

pub list-returns-in_default-r : goal.list-returns-in_default-r
list-returns-in_default-r t c =
    let s = c.args.text.now in
    let rd = value_of c.args.room s in
    c.same.ensures ∙ turn_stop rd s c.args.close c.args.from c.loop-g.g _ c.value-r.result c.loop-g.invariant c.in-Item.is c.value-r.ensures (opened c.in_default-r.in_default-r-own.keys2)

pub list-loop-g-smaller : goal.list-loop-g-smaller
list-loop-g-smaller t c =
    let s = c.args.text.now in
    let rd = value_of c.args.room s in
    turn_less rd s c.args.close c.args.from (value_ahead c.args.room s) c.ranges.close.fits c.loop-g.g c.then_at-g.result _ _ c.value-r.result c.in-Item.is c.in-Value.is c.value-r.ensures c.then_at-g.ensures

pub list-loop-g-preserved : goal.list-loop-g-preserved
list-loop-g-preserved t c =
    let s = c.args.text.now in
    let rd = value_of c.args.room s in
    turn_more rd s c.args.close c.args.from (value_ahead c.args.room s) c.ranges.close.fits c.loop-g.g c.then_at-g.result _ _ c.value-r.result c.in-Item.is c.in-Value.is c.value-r.ensures c.then_at-g.ensures c.loop-g.invariant

-- The needs of `pair` in the cycle. Its key begins at the same place, where a key's measure is one lower, and its value after the key. A key with a fault is the pair's
-- result; otherwise the value's result is.
pub pair-key-k-requires : goal.pair-key-k-requires
pair-key-k-requires t c = omega arith

pub pair-returns-in_default : goal.pair-returns-in_default
pair-returns-in_default t c =
    let s = c.args.text.now in
    let at = c.args.at in
    let rd = value_of c.args.room s in
    pair_stop rd s at c.key-k.result c.key-k.ensures (stops c.key-k.result (opened c.in_default.in_default-own.keys2))

pub pair-value-requires : goal.pair-value-requires
pair-value-requires t c =
    let s = c.args.text.now in
    let at = c.args.at in
    let rd = value_of c.args.room s in
    let at_p = read_ahead at (length s) _ c.key-k.result _ c.key-k.ensures c.in-Value.is (key_ahead rd s (value_ahead c.args.room s) at) in
    omega arith

pub pair-returns : goal.pair-returns
pair-returns t c =
    let s = c.args.text.now in
    let at = c.args.at in
    let rd = value_of c.args.room s in
    c.value.ensures ∙ pair_more rd s at _ (sym c.in-Value.is ∙ c.key-k.ensures)

pub tuple-returns-in_default : goal.tuple-returns-in_default
tuple-returns-in_default t c =
    let s = c.args.text.now in
    let at = c.args.from in
    let rd = value_of c.args.room s in
    c.ended.ensures ∙ tuple_end rd s at c.gap_at-g.result c.gap_at-g.ensures (opened c.in_default.in_default-own.keys2)

pub tuple-value-r-requires : goal.tuple-value-r-requires
tuple-value-r-requires t c =
    let s = c.args.text.now in
    let at = c.args.from in
    let from-p = gap_item s at 41 _ c.gap_at-g.result (lit< tt) c.gap_at-g.ensures c.in-Item.is in
    omega arith

pub tuple-returns-in_default-r : goal.tuple-returns-in_default-r
tuple-returns-in_default-r t c =
    let s = c.args.text.now in
    let at = c.args.from in
    let rd = value_of c.args.room s in
    let hg : gap_at s at 41 ≡ _ = sym c.gap_at-g.ensures ∙ c.in-Item.is in
    tuple_stop rd s at _ c.value-r.result hg c.value-r.ensures (stops c.value-r.result (opened c.in_default-r.in_default-r-own.keys2))

pub tuple-returns-in_default-c : goal.tuple-returns-in_default-c
tuple-returns-in_default-c t c =
    let s = c.args.text.now in
    let at = c.args.from in
    let rd = value_of c.args.room s in
    let hg : gap_at s at 41 ≡ _ = sym c.gap_at-g.ensures ∙ c.in-Item.is in
    let hr = sym c.in-Value.is ∙ c.value-r.ensures in
    tuple_comma rd s at _ _ c.need-c.result hg hr c.need-c.ensures (stops c.need-c.result (opened c.in_default-c.in_default-c-own.keys2))

pub tuple-list-requires : goal.tuple-list-requires
tuple-list-requires t c =
    let s = c.args.text.now in
    let at = c.args.from in
    let from-p = gap_item s at 41 _ c.gap_at-g.result (lit< tt) c.gap_at-g.ensures c.in-Item.is in
    let p-q = read_ahead _ (length s) _ c.value-r.result _ c.value-r.ensures c.in-Value.is (value_ahead c.args.room s _) in
    let q-e = read_ahead _ (length s) _ c.need-c.result _ c.need-c.ensures c.in-Value-c.is (need_ahead s _ 44 (lit< tt)) in
    omega arith

pub tuple-returns : goal.tuple-returns
tuple-returns t c =
    let s = c.args.text.now in
    let at = c.args.from in
    let rd = value_of c.args.room s in
    let hg : gap_at s at 41 ≡ _ = sym c.gap_at-g.ensures ∙ c.in-Item.is in
    let hr = sym c.in-Value.is ∙ c.value-r.ensures in
    let hn = sym c.in-Value-c.is ∙ c.need-c.ensures in
    c.list.ensures ∙ tuple_more rd s at _ _ _ hg hr hn

pub value-returns-then-not-is_open : goal.value-returns-then-not-is_open
value-returns-then-not-is_open t c =
    let s = c.args.text.now in
    let at = c.args.at in
    let shut : is_open (byte_at s at) ≡ false = sym (ap is_open c.peek-b.ensures) ∙ sym c.is_open.ensures ∙ not-true c.is_open.result c.if-not-is_open.true-raw in
    c.token.ensures ∙ ap pos (value_token s at c.args.room shut)

pub value-returns-then-room-eq0 : goal.value-returns-then-room-eq0
value-returns-then-room-eq0 t c =
    let s = c.args.text.now in
    let at = c.args.at in
    let is_open = opens c.peek-b.ensures c.is_open.ensures c.if-not-is_open.false-raw in
    ap pos (value_deep s at c.args.room c.if-room-eq0.true is_open)

pub value-overflow_add-at : goal.value-overflow_add-at
value-overflow_add-at t c =
    let s = c.args.text.now in
    let at = c.args.at in
    let is_open = opens c.peek-b.ensures c.is_open.ensures c.if-not-is_open.false-raw in
    let lt = open_in s at is_open in
    omega arith

pub value-list-requires : goal.value-list-requires
value-list-requires t c =
    let s = c.args.text.now in
    let at = c.args.at in
    let is_open = opens c.peek-b.ensures c.is_open.ensures c.if-not-is_open.false-raw in
    let lt = open_in s at is_open in
    omega arith

pub value-returns-then-b-eq-SQUARE : goal.value-returns-then-b-eq-SQUARE
value-returns-then-b-eq-SQUARE t c =
    let s = c.args.text.now in
    let at = c.args.at in
    let is_open = opens c.peek-b.ensures c.is_open.ensures c.if-not-is_open.false-raw in
    c.list.ensures ∙ value_list s at is_open c.args.room c.if-room-eq0.false (sym c.peek-b.ensures ∙ c.if-b-eq-SQUARE.true)

pub value-overflow_add-at-then-b-eq-ROUND : goal.value-overflow_add-at-then-b-eq-ROUND
value-overflow_add-at-then-b-eq-ROUND t c =
    let s = c.args.text.now in
    let at = c.args.at in
    let is_open = opens c.peek-b.ensures c.is_open.ensures c.if-not-is_open.false-raw in
    let lt = open_in s at is_open in
    omega arith

pub value-tuple-requires : goal.value-tuple-requires
value-tuple-requires t c =
    let s = c.args.text.now in
    let at = c.args.at in
    let is_open = opens c.peek-b.ensures c.is_open.ensures c.if-not-is_open.false-raw in
    let lt = open_in s at is_open in
    omega arith

pub value-returns-then-b-eq-ROUND : goal.value-returns-then-b-eq-ROUND
value-returns-then-b-eq-ROUND t c =
    let s = c.args.text.now in
    let at = c.args.at in
    let is_open = opens c.peek-b.ensures c.is_open.ensures c.if-not-is_open.false-raw in
    c.tuple.ensures ∙ value_tuple s at is_open c.args.room c.if-room-eq0.false (λ e. c.if-b-eq-SQUARE.false (c.peek-b.ensures ∙ e)) (sym c.peek-b.ensures ∙ c.if-b-eq-ROUND.true)

pub value-overflow_add-at-2 : goal.value-overflow_add-at-2
value-overflow_add-at-2 t c =
    let s = c.args.text.now in
    let at = c.args.at in
    let is_open = opens c.peek-b.ensures c.is_open.ensures c.if-not-is_open.false-raw in
    let lt = open_in s at is_open in
    omega arith

pub value-dict-requires : goal.value-dict-requires
value-dict-requires t c =
    let s = c.args.text.now in
    let at = c.args.at in
    let is_open = opens c.peek-b.ensures c.is_open.ensures c.if-not-is_open.false-raw in
    let lt = open_in s at is_open in
    omega arith

pub value-returns : goal.value-returns
value-returns t c =
    let s = c.args.text.now in
    let at = c.args.at in
    let is_open = opens c.peek-b.ensures c.is_open.ensures c.if-not-is_open.false-raw in
    c.dict.ensures ∙ value_dict s at is_open c.args.room c.if-room-eq0.false (λ e. c.if-b-eq-SQUARE.false (c.peek-b.ensures ∙ e)) (λ e. c.if-b-eq-ROUND.false (c.peek-b.ensures ∙ e))
