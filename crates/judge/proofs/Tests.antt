-- The limits by the totals and the outline: 13 of sub-shapes, 20, 21, 22, in their order.
use Rattle.refusal.specs.Answers.{answer}
use Rattle.std.specs.Prelude.{Err, Ok, Result}
use Prim.Native.Nat.{ℕ}
use mathlib.Core.Path.{◌≡◌, refl, sym, ap, subst, ◌∙◌}
use mathlib.Core.List.{List}
use Rattle.counts.specs.Outcome.{Outcome, refused, each}
use Rattle.refusal.specs.declared.Refusal.{Refusal}
use Rattle.refusal.specs.Numbers.{number_of}
use Rattle.dtype.specs.declared.Order.{Order}
use Rattle.dtype.specs.Dtype.{Dtype}
use Rattle.dtype.specs.Record.{Record}
use Rattle.dtype.specs.Limits.{limited}
use Rattle.judge_limits.specs.Answer.{limits_of}
use Rattle.judge_limits.proofs.Tests.{limits_say}
use Rattle.judge.specs.declared.Shape.{Shape}
use Rattle.judge.specs.declared.Descr.{Descr}
use Rattle.judge.specs.Judged.{ShapeOf, DescrOf, JudgedIs}

-- an answer that is a refusal
pub refused_by : (text : List ℕ) (at : ℕ) (why : Refusal) (o : Outcome Record) → o ≡ refused (number_of why) → JudgedIs text at (Err why) o
refused_by text at why o e = subst (JudgedIs text at (Err why)) (sym e) refl

module _ (text : List ℕ) (at : ℕ) (s : List ℕ) (d : Dtype) (o : Order) (p : Shape) (q : Descr) (hs : ShapeOf text at p s) (hd : DescrOf text at q d) (x : Result Unit Refusal) (hx : answer x ≡ limits_of o p.outline q.totals) where
  abbrev whole : Record
  whole = record { dtype = d; shape = s; order = o }

  limits_are : (y : Result Unit Refusal) → x ≡ y → limited whole ≡ each {A = Unit} (λ u. whole) (answer y)
  limits_are y e =
      sym (ap (each {A = Unit} (λ u. whole)) hx ∙ rw (hs.outlined, hd.totalled) (limits_say o s d hs.few)) ∙ ap (λ (z : Result Unit Refusal). each {A = Unit} (λ u. whole) (answer z)) e

  pub limit_broken : (why : Refusal) → x ≡ Err why → limited whole ≡ refused (number_of why)
  limit_broken why e = limits_are (Err why) e

  pub limit_kept : (r : Outcome Record) → r ≡ limited whole → x ≡ (Ok tt) → JudgedIs text at (Ok (record { order = o; shape = p; descr = q })) r
  limit_kept r h e =
      let fits = limits_are (Ok tt) e in
      subst (JudgedIs text at (Ok (record { order = o; shape = p; descr = q }))) (sym (h ∙ fits)) (record { ordered = refl; shaped = hs; typed = hd; within = fits })
