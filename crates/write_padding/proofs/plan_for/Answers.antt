-- `write_padding::plan_for` meets its contract: no text within the limit makes a sum wrap.
use Prim.Native.Nat.{◌+◌}
use native.Mathlib.Omega.{arith}
use Rattle.header_prefix.specs.Answer.{version_is}
use Rattle.header_prefix.proofs.Bytes.{width_few}
use Rattle.write_padding.proofs.Plans.{spaces_few, planned_4_bare, planned_long, planned_is}
use Rattle.write_padding.proofs.plan_for.Goals as goal

pub returns-then-n-gt-LONGEST : goal.returns-then-n-gt-LONGEST
returns-then-n-gt-LONGEST c = planned_4_bare _ _ c.if-n-gt-LONGEST.true

pub overflow_add-start : goal.overflow_add-start
overflow_add-start c = omega (arith, c.length_width-start.ensures, width_few (version_is c.chosen_version-version.result))

pub overflow_add-start-2 : goal.overflow_add-start-2
overflow_add-start-2 c = omega (arith, c.length_width-start.ensures, width_few (version_is c.chosen_version-version.result))

pub overflow_add-text : goal.overflow_add-text
overflow_add-text c = omega (arith, c.spaces_after-spaces.ensures, spaces_few (8 + c.length_width-start.result + c.args.n))

pub overflow_add-text-2 : goal.overflow_add-text-2
overflow_add-text-2 c = omega (arith, c.spaces_after-spaces.ensures, spaces_few (8 + c.length_width-start.result + c.args.n))

pub returns-then-text-gt-LONGEST : goal.returns-then-text-gt-LONGEST
returns-then-text-gt-LONGEST c = planned_long _ _ c.chosen_version-version.result _ _ c.chosen_version-version.ensures c.length_width-start.ensures c.spaces_after-spaces.ensures c.if-text-gt-LONGEST.true

pub overflow_add-whole : goal.overflow_add-whole
overflow_add-whole c = omega (arith, c.length_width-start.ensures, width_few (version_is c.chosen_version-version.result))

pub returns : goal.returns
returns c = planned_is _ _ c.chosen_version-version.result _ _ c.chosen_version-version.ensures c.length_width-start.ensures c.spaces_after-spaces.ensures c.if-text-gt-LONGEST.false
