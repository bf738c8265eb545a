-- No second outcome satisfies the statement of `put_text`: an outcome is its answer, and what the room then holds. A place is a usize.
use Rattle.refusal.specs.declared.Refusal.{Refusal}
use Rattle.std.specs.Prelude.{Ok, Result}
use Prim.Native.Nat.{ℕ, ◌^◌, ◌<◌}
use mathlib.Core.Path.{◌≡◌, refl, ap}
use mathlib.Core.List.{List}
use Rattle.counts.specs.Outcome.{Outcome, gives, refused}
use Rattle.counts.specs.OneOutcome.{OneOutcome}
use Rattle.counts.proofs.OneOutcome.{by_equation, beside}
use Rattle.emit.proofs.Outcomes.{emits_one}
use Rattle.refusal.proofs.Answers.{whole_one}
use Rattle.literal_grammar.specs.Print.{print}
use Rattle.dtype.specs.declared.Order.{Order}
use Rattle.dtype.specs.Record.{Record}
use Rattle.record.specs.Layout.{header_layout}
use Rattle.write_depth.specs.Printable.{printable}
use Rattle.write_text.specs.Prints.{PrintsText}

-- a place in an answer is a usize
abbrev pub Small : Result ℕ Refusal → Type 0
Small r = (p : ℕ) → r ≡ Ok p → p < 2 ^ 64

end_eq : (x y : Result ℕ Refusal) (out out' : List ℕ) (p q : ℕ) → x ≡ Ok p → y ≡ Ok q → ◌≡◌ {A = List ℕ × ℕ} (out, p) (out', q) → ◌≡◌ {A = Result ℕ Refusal × List ℕ} (x, out) (y, out')
end_eq x y out out' p q e f g = parts (ap (λ (r : List ℕ × ℕ). r.1) g) (ap (λ (r : List ℕ × ℕ). r.0) g)
  where
    parts : p ≡ q → out ≡ out' → ◌≡◌ {A = Result ℕ Refusal × List ℕ} (x, out) (y, out')
    parts a b = cc

pub put_text_one : (t ns s : List ℕ) (o : Order) (old : List ℕ) (at : ℕ)
    → OneOutcome {A = Result ℕ Refusal × List ℕ} (λ r. PrintsText (printable t ns s o) old at r.0 r.1 × Small r.0)
put_text_one t ns s o old at x y (p, small) (q, small') = go (printable t ns s o) refl
  where
    go : (c : Outcome Record) → printable t ns s o ≡ c → x ≡ y
    go (gives r) e =
        let v = p.printed r e in
        let w = q.printed r e in
        end_eq x.0 y.0 x.1 y.1 v.0 w.0 v.1 w.1
        (emits_one (print (header_layout r)) old at (x.1, v.0) (y.1, w.0) (v.2, small v.0 v.1) (w.2, small' w.0 w.1))
    go (refused n) e =
        beside (whole_one (refused n)) (by_equation old) x y (p.unprinted n e) (q.unprinted n e)
