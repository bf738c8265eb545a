-- No second outcome satisfies the statement of `judge`: the text determines the record, the record what is kept of its parts, and a value that counts its own place.
use Rattle.std.specs.Prelude.{Err, Ok}
use Prim.Native.Nat.{ℕ}
use mathlib.Core.Path.{◌≡◌, sym, ap, ◌∙◌}
use mathlib.Core.List.{List}
use Rattle.counts.specs.Outcome.{Outcome, gives, refused}
use Rattle.counts.specs.OneOutcome.{OneOutcome}
use Rattle.refusal.proofs.Names.{number_apart}
use Rattle.dtype.specs.declared.Order.{Order}
use Rattle.dtype.specs.Dtype.{Dtype}
use Rattle.dtype.specs.Record.{Record}
use Rattle.record.specs.Dict.{key_shape, key_descr}
use Rattle.record.specs.Header.{record_in}
use Rattle.literal_tokens.specs.Node.{Span}
use Rattle.literal_tokens.proofs.Spans.{span_of}
use Rattle.literal_bytes.specs.Text.{skip}
use Rattle.literal.proofs.View.{value_span}
use Rattle.shape_verdict.specs.declared.Outline.{Outline}
use Rattle.descr_totals.specs.declared.Totals.{Totals}
use Rattle.judge.specs.declared.Shape.{Shape}
use Rattle.judge.specs.declared.Descr.{Descr}
use Rattle.judge.specs.declared.FoundRecord.{FoundRecord}
use Rattle.judge.specs.Judged.{reading, inside, Counts, ShapeOf, DescrOf, PlanOf, JudgedIs}

module _ (text : List ℕ) (at : ℕ) where
  place_one : (w : List ℕ) (p q : ℕ) → Counts text at w p → Counts text at w q → p ≡ q
  place_one w p q a b =
      let same : a.node ≡ b.node = cc (sym a.found ∙ b.found) in
      ap (λ (z : Span). z.begin) (sym (value_span inside text p a.there) ∙ ap span_of same ∙ value_span inside text q b.there)

  shape_eq : {a b : ℕ} {o u : Outline} → a ≡ b → o ≡ u → ◌≡◌ {A = Shape} (record { at = a; outline = o }) (record { at = b; outline = u })
  shape_eq ha ho = cc

  descr_eq : {a b : ℕ} {t u : Totals} → a ≡ b → t ≡ u → ◌≡◌ {A = Descr} (record { at = a; totals = t }) (record { at = b; totals = u })
  descr_eq ha ht = cc

  plan_eq : {a b : Order} {p q : Shape} {x y : Descr} → a ≡ b → p ≡ q → x ≡ y → ◌≡◌ {A = FoundRecord} (record { order = a; shape = p; descr = x }) (record { order = b; shape = q; descr = y })
  plan_eq ho hp hx = cc

  shape_one : (s : List ℕ) → OneOutcome (λ p. ShapeOf text at p s)
  shape_one s p q a b = shape_eq (place_one key_shape p.at q.at a.counts b.counts) (a.outlined ∙ sym b.outlined)

  descr_one : (d : Dtype) → OneOutcome (λ p. DescrOf text at p d)
  descr_one d p q a b = descr_eq (place_one key_descr p.at q.at a.counts b.counts) (a.totalled ∙ sym b.totalled)

  plan_one : (r : Record) → OneOutcome (λ p. PlanOf text at p r)
  plan_one r p q a b =
      plan_eq (a.ordered ∙ sym b.ordered) (shape_one r.shape p.shape q.shape a.shaped b.shaped)
      (descr_one r.dtype p.descr q.descr a.typed b.typed)

  judged_one : (o : Outcome Record) → OneOutcome (λ x. JudgedIs text at x o)
  judged_one (gives r) (Ok p) (Ok q) a b = ap Ok (plan_one r p q a b)
  judged_one (gives r) (Ok p) (Err g) a b = absurd b
  judged_one (gives r) (Err f) y a b = absurd a
  judged_one (refused n) (Ok p) y a b = absurd a
  judged_one (refused n) (Err f) (Ok q) a b = absurd b
  judged_one (refused n) (Err f) (Err g) a b = ap Err (number_apart f g (a ∙ sym b))

pub judge_one : (text : List ℕ) → OneOutcome (λ x. JudgedIs text (skip text 0) x (record_in reading text))
judge_one text = judged_one text (skip text 0) (record_in reading text)
