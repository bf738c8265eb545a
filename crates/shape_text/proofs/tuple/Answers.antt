-- A law for each way out; after the comma the members are walked over as a list's.
use borrow.Enum.Refused.{opened}
use native.Mathlib.Omega.{arith}
use mathlib.Core.Path.{◌≡◌, sym, ◌∙◌}
use mathlib.Core.List.{[]}
use lib.ListN.{length}
use lib.Dec.{lit<}
use Rattle.counts.specs.Outcome.{gives}
use Rattle.literal_bytes.specs.Gaps.{gap_at}
use Rattle.literal_bytes.proofs.GapEnds.{need_ahead}
use Rattle.literal.proofs.Steps.{read_ahead}
use Rattle.shape_verdict.specs.Outline.{outline_of}
use Rattle.shape_text.proofs.Walking.{round_end, round_stop, round_comma, round_more, first_joined}
use Rattle.shape_text.proofs.tuple.Goals as goal

pub returns-in_default : goal.returns-in_default
returns-in_default c =
    let a = c.args in
    round_end a.room a.text.now a.from c.gap_at-g.result c.nothing.result (outline_of []) c.shut.result c.gap_at-g.ensures (opened c.in_default.in_default-own.keys2) c.nothing.ensures c.shut.ensures

pub returns-in_default-first : goal.returns-in_default-first
returns-in_default-first c =
    let a = c.args in
    let s = a.text.now in
    let hg : gap_at s a.from 41 ≡ _ = sym c.gap_at-g.ensures ∙ c.in-Item.is in
    round_stop a.room s a.from (gives (outline_of [])) _ c.member_at-m.result.ended hg c.member_at-m.ensures.ended_value (opened c.in_default-first.in_default-first-own.keys2)

pub returns-in_default-c : goal.returns-in_default-c
returns-in_default-c c =
    let a = c.args in
    let s = a.text.now in
    let hg : gap_at s a.from 41 ≡ _ = sym c.gap_at-g.ensures ∙ c.in-Item.is in
    round_comma a.room s a.from (gives (outline_of [])) _ c.member_at-m.result.ended hg c.member_at-m.ensures.ended_value _ c.in-Value.is c.need-c.result c.need-c.ensures (opened c.in_default-c.in_default-c-own.keys2)

pub members-requires : goal.members-requires
members-requires c =
    let s = c.args.text.now in
    let after = read_ahead _ (length s) _ c.need-c.result _ c.need-c.ensures c.in-Value-c.is (need_ahead s c.in-Value.q 44 (lit< tt)) in
    let one = first_joined c.nothing-2.result c.joined.result c.member_at-m.result.size c.nothing-2.ensures c.joined.ensures in
    omega (arith, after, one.1)

pub returns : goal.returns
returns c =
    let a = c.args in
    let s = a.text.now in
    let hg : gap_at s a.from 41 ≡ _ = sym c.gap_at-g.ensures ∙ c.in-Item.is in
    let m = c.member_at-m in
    let one = first_joined c.nothing-2.result c.joined.result m.result.size c.nothing-2.ensures c.joined.ensures in
    round_more a.room s a.from (gives (outline_of [])) _ m.result.ended hg m.ensures.ended_value _ c.in-Value.is c.need-c.result c.need-c.ensures _ m.result.size c.joined.result c.members.result c.in-Value-c.is m.ensures.size_at one.0 c.members.ensures
