-- Which record is printed and which refusal applies, from the answers of the functions that are called: write_depth's check, the dict's text. Then the way back, for a
-- caller who has the answer.
use Rattle.refusal.specs.Answers.{answer}
use Rattle.refusal.specs.declared.Refusal.{Refusal}
use Rattle.std.specs.Prelude.{Ok, Result}
use Prim.Native.Nat.{ℕ}
use native.Mathlib.Omega.{arith}
use mathlib.Core.Path.{◌≡◌, refl, sym, ap, ◌∙◌, subst}
use mathlib.Core.List.{List, []}
use Rattle.counts.specs.Outcome.{Outcome, gives, refused, each}
use Rattle.counts.proofs.Apart.{gives_refused, gives_apart}
use Rattle.emit.specs.Emits.{Emits}
use Rattle.literal_grammar.specs.Print.{print}
use Rattle.dtype.specs.declared.Order.{Order}
use Rattle.dtype.specs.Dtype.{Dtype}
use Rattle.dtype.specs.Record.{Record}
use Rattle.record.specs.Layout.{header_layout}
use Rattle.check_table.proofs.Readable.{readable_typed}
use Rattle.check_record.specs.Answer.{summary}
use Rattle.check_record.specs.declared.Summary.{Summary}
use Rattle.check_record.specs.Valid.{made}
use Rattle.check_record.proofs.Accepts.{accepts_valid}
use Rattle.write_depth.specs.Printable.{printable}
use Rattle.write_depth.proofs.Views.{same_number, valid_listed, View, unread, too_deep_lem, shown, view}
use Rattle.write_text.specs.Walk.{ListedNamed}
use Rattle.write_text.specs.Prints.{PrintsText}

-- ---- an answer, once it is known what there is to print
module _ (c : Outcome Record) (old : List ℕ) (at : ℕ) where
  pub prints_refused : (w : Result ℕ Refusal) (n : ℕ) → answer w ≡ refused n → c ≡ refused n → PrintsText c old at w old
  prints_refused w n a e = record { printed = λ x g. gives_refused (sym g ∙ e); unprinted = λ m g. (a ∙ same_number n m (sym e ∙ g), refl) }

  prints_gives : (x : Record) → c ≡ gives x → (out : List ℕ) (p : ℕ) → Emits (print (header_layout x)) old at out p → PrintsText c old at (Ok p) out
  prints_gives x e out p h =
      record {
        printed = λ y g. (p, refl, subst (λ (z : Record). Emits (print (header_layout z)) old at out p) (gives_apart (sym e ∙ g)) h);
        unprinted = λ n g. gives_refused (sym e ∙ g);
      }

-- ---- a caller's record that write_depth's check has accepted, or has not
module _ (t ns s : List ℕ) (o : Order) where
  pub accepted : (f : Summary) → gives f ≡ each summary (printable t ns s o) → (d : Dtype) × (printable t ns s o ≡ gives (made d s o)) × ListedNamed t ns 0 0 d
  accepted f h = go (view t ns s o)
    where
      none : {A : Type 0} (k : ℕ) → printable t ns s o ≡ refused k → A
      none k p = gives_refused (h ∙ ap (λ (y : Outcome Record). each summary y) p)

      go : View t ns s o → (d : Dtype) × (printable t ns s o ≡ gives (made d s o)) × ListedNamed t ns 0 0 d
      go (unread k c p) = none k p
      go (too_deep_lem x c w p) = none 7 p
      go (shown x c w p) =
          let u = accepts_valid t ns s o x c in
          let v = u.2 in
          (u.0, p ∙ ap gives u.1, record { listed = valid_listed t ns s o u.0 v; later = []; named = v.names_are; inside = omega arith; typed = readable_typed u.0 v.readable })

  pub unaccepted : (k : ℕ) → refused k ≡ each summary (printable t ns s o) → printable t ns s o ≡ refused k
  unaccepted k h = go (printable t ns s o) h
    where
      go : (c : Outcome Record) → refused k ≡ each summary c → c ≡ refused k
      go (gives r) e = gives_refused (sym e)
      go (refused m) e = same_number m k (sym e)

  pub accepted_text : (f : Summary) → gives f ≡ each summary (printable t ns s o) → (old : List ℕ) (at : ℕ) (out : List ℕ) (p : ℕ)
      → ((d : Dtype) → ListedNamed t ns 0 0 d → Emits (print (header_layout (made d s o))) old at out p) → PrintsText (printable t ns s o) old at (Ok p) out
  accepted_text f h old at out p e =
      let u = accepted f h in
      prints_gives (printable t ns s o) old at (made u.0 s o) u.1 out p (e u.0 u.2)

-- ---- what there is to print, once the answer is known
place_one : (p q : ℕ) → ◌≡◌ {A = Result ℕ Refusal} (Ok p) (Ok q) → p ≡ q
place_one p q e = cc

module _ (c : Outcome Record) (old : List ℕ) (at : ℕ) where
  pub text_at : (x : Record) → c ≡ gives x → (r : Result ℕ Refusal) (p : ℕ) → r ≡ Ok p → (out : List ℕ) → PrintsText c old at r out → Emits (print (header_layout x)) old at out p
  text_at x e r p z out h = let u = h.printed x e in subst (λ (q : ℕ). Emits (print (header_layout x)) old at out q) (place_one u.0 p (sym u.1 ∙ z)) u.2

  pub printed_end : (p : ℕ) (out : List ℕ) → PrintsText c old at (Ok p) out → (x : Record) × (c ≡ gives x) × Emits (print (header_layout x)) old at out p
  printed_end p out h = go c refl
    where
      go : (b : Outcome Record) → c ≡ b → (x : Record) × (c ≡ gives x) × Emits (print (header_layout x)) old at out p
      go (gives x) e = (x, e, text_at x e (Ok p) p refl out h)
      go (refused n) e = gives_refused (h.unprinted n e).0

  pub unprinted_refused : (w : Result ℕ Refusal) (n : ℕ) (out : List ℕ) → answer w ≡ refused n → PrintsText c old at w out → c ≡ refused n
  unprinted_refused w n out a h = go c refl
    where
      go : (b : Outcome Record) → c ≡ b → c ≡ refused n
      go (gives x) e = let u = h.printed x e in gives_refused (sym (ap answer u.1) ∙ a)
      go (refused m) e = e ∙ same_number m n (sym (h.unprinted m e).0 ∙ a)
