-- The string is compared as it is spelled: all of it was stored, or it is longer than each of the three.
use Rattle.literal_escapes.specs.Strings.{spelled}
use Rattle.judge_names.proofs.Names.{name_long, name_fits, name_stored}
use Rattle.judge_names.proofs.name_at.Goals as goal

pub returns-then-s-gt-LONGEST : goal.returns-then-s-gt-LONGEST
returns-then-s-gt-LONGEST c = name_long _ _ c.decode-s.ensures.value c.if-s-gt-LONGEST.true

pub slice_bounds-key_of-end : goal.slice_bounds-key_of-end
slice_bounds-key_of-end c =
    let a = c.args in
    let d = c.decode-s in
    name_fits (spelled a.quote a.text.now a.from) _ d.ensures.value _ d.ensures.out_after c.if-s-gt-LONGEST.false

pub returns : goal.returns
returns c = let d = c.decode-s in name_stored _ _ d.ensures.value _ d.ensures.out_after c.if-s-gt-LONGEST.false _ c.key_of.ensures
