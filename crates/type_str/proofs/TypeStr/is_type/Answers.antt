-- `TypeStr::is_type` meets its contract: an object has no size, and the checks pass.
use mathlib.Core.Path.{◌≡◌, refl, sym, ap, ◌∙◌}
use Rattle.std.specs.Prelude.{Result, Ok, Err, is_ok}
use Rattle.refusal.specs.declared.Refusal.{Refusal}
use Rattle.refusal.specs.Answers.{answer}
use Rattle.type_str.specs.declared.TypeStr.{TypeStr}
use native.Mathlib.Omega.{arith}
use Rattle.counts.specs.Outcome.{given}
use Rattle.type_str.proofs.Checks.{sized_object, object_bare, no_object, type_passes}
use Rattle.type_str.proofs.TypeStr.is_type.Goals as goal
use Rattle.type_str.proofs.TypeStr.is_type.Goals.{else-is_object-via-then-is_object+else-self-ne0, else-is_object-via-else-is_object}

pub returns-then-self-ne0 : goal.returns-then-self-ne0
returns-then-self-ne0 c = sized_object _ (sym c.is_object.ensures ∙ c.if-is_object.true) c.if-self-ne0.true

-- an answer is `Ok` where it is no refusal
given_ok : (r : Result TypeStr Refusal) → is_ok r ≡ given (answer r)
given_ok (Ok t) = refl
given_ok (Err why) = refl

pub returns : goal.returns
returns c =
    let t = c.args.self in
    c.is_ok.ensures.value ∙ given_ok c.validate.result ∙ ap given c.validate.ensures ∙ type_passes _ (omega arith)
    (elim c.else-is_object.branch [
      | else-is_object-via-then-is_object+else-self-ne0 w ↦ object_bare t.letter t.size (sym c.is_object.ensures ∙ w.if-is_object.true) w.if-self-ne0.false
      | else-is_object-via-else-is_object w ↦ no_object t.letter t.size (sym c.is_object.ensures ∙ w.if-is_object.false)
    ])
