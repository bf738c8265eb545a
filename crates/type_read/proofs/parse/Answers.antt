-- `type_read::parse` meets its contract: the string is taken apart, and its parts are checked.
use native.Mathlib.Omega.{arith}
use mathlib.Core.Path.{◌≡◌}
use Rattle.std.specs.Prelude.{Option, None, Some}
use Rattle.counts.proofs.HandedOn.{handed_on}
use Rattle.counts.proofs.OneOutcome.{matched}
use Rattle.refusal.specs.declared.Refusal.{Refusal}
use Rattle.type_read.specs.Parts.{parts_answer}
use Rattle.type_read.specs.declared.Parts.{Parts}
use Rattle.type_read.proofs.Wholes.{refused_whole, parts_whole}
use Rattle.type_read.proofs.parse.Goals as goal

pub returns : goal.returns
returns c =
    let e : ◌≡◌ {A = Option Parts} c.take_apart.result (Some c.in_ok-ok_or.field-0) = grind arith in
    parts_whole _ _ _ (matched parts_answer c.take_apart.ensures e) c.checked.ensures

pub returns-in_err-ok_or : goal.returns-in_err-ok_or
returns-in_err-ok_or c =
    let e : ◌≡◌ {A = Option Parts} c.take_apart.result None = grind arith in
    let w : ◌≡◌ {A = Refusal} c.in_err-ok_or.field-0.0 Refusal.Syntax = grind arith in
    rw (handed_on _ c.in_err-ok_or.field-0.0 c.from_residual.ensures, w) (refused_whole _ _ (matched parts_answer c.take_apart.ensures e))
