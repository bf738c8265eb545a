-- Which record can be printed and which refusal applies, from the answers of the functions that are called: the check of check_record and the count of the brackets.
use Prim.Native.Nat.{ℕ}
use mathlib.Core.Path.{◌≡◌, refl, sym, ap, ◌∙◌}
use mathlib.Core.Bool.{Bool, true, false, ◌&&◌, and-true}
use mathlib.Core.List.{List, []}
use Rattle.counts.specs.Outcome.{Outcome, gives, refused, each}
use Rattle.counts.proofs.Alike.{true_false}
use Rattle.counts.proofs.Apart.{gives_refused}
use Rattle.literal_grammar.specs.Print.{value_of}
use Rattle.dtype.specs.declared.Order.{Order}
use Rattle.dtype.specs.declared.Order.TheVariants.{C, Fortran}
use Rattle.dtype.specs.Dtype.{Dtype}
use Rattle.dtype.specs.Record.{Record}
use Rattle.record.specs.Layout.{descr_layout, header_layout}
use Rattle.record.specs.Within.{within}
use Rattle.check_record.specs.Checked.{checked_record}
use Rattle.check_record.specs.Answer.{summary}
use Rattle.check_record.specs.declared.Summary.{Summary}
use Rattle.check_record.specs.Valid.{made, Valid}
use Rattle.check_record.proofs.Accepts.{accepts_valid}
use Rattle.write_depth.specs.Listed.{InTableAt}
use Rattle.write_depth.specs.Printable.{printable}
use Rattle.write_depth.proofs.Nesting.{shape_within}

pub same_number : {A B : Type 0} (n m : ℕ) → ◌≡◌ {A = Outcome A} (refused n) (refused m) → ◌≡◌ {A = Outcome B} (refused n) (refused m)
same_number n m e = let z : n ≡ m = cc in ap refused z

pub valid_listed : (t ns s : List ℕ) (o : Order) (d : Dtype) → Valid t ns s o (made d s o) → InTableAt t 0 d
valid_listed t ns s o d v = record { up = 0; name = 0; rest = []; is = v.table_is }

-- the dict opens one bracket, and a shape one in it
header_within : (d : Dtype) (s : List ℕ) (o : Order) → within (value_of (header_layout (made d s o))) 32 ≡ within (value_of (descr_layout d)) 31
header_within d s C =
    ap (λ (b : Bool). within (value_of (descr_layout d)) 31 && (b && true)) (shape_within 1 30 s) ∙ and-true (within (value_of (descr_layout d)) 31)
header_within d s Fortran =
    ap (λ (b : Bool). within (value_of (descr_layout d)) 31 && (b && true)) (shape_within 1 30 s) ∙ and-true (within (value_of (descr_layout d)) 31)

-- ---- a caller's record: what is printable, by the check and the brackets
pub data View (t ns s : List ℕ) (o : Order) : Type 0 where
  unread : (k : ℕ) → checked_record t ns s o ≡ refused k → printable t ns s o ≡ refused k → View t ns s o
  too_deep_lem : (x : Record) → checked_record t ns s o ≡ gives x → within (value_of (header_layout x)) 32 ≡ false → printable t ns s o ≡ refused 7 → View t ns s o
  shown : (x : Record) → checked_record t ns s o ≡ gives x → within (value_of (header_layout x)) 32 ≡ true → printable t ns s o ≡ gives x → View t ns s o

module _ (t ns s : List ℕ) (o : Order) where
  pub view : View t ns s o
  unfolding printable
  view = go (checked_record t ns s o) refl
    where
      by_brackets : (x : Record) → checked_record t ns s o ≡ gives x → (b : Bool) → within (value_of (header_layout x)) 32 ≡ b → View t ns s o
      by_brackets x e true w = shown x e w (rw (printable, e, w))
      by_brackets x e false w = too_deep_lem x e w (rw (printable, e, w))

      go : (c : Outcome Record) → checked_record t ns s o ≡ c → View t ns s o
      go (gives x) e = by_brackets x e (within (value_of (header_layout x)) 32) refl
      go (refused k) e = unread k e (rw (printable, e))

  pub check_refused : (k : ℕ) → refused k ≡ each summary (checked_record t ns s o) → refused k ≡ each summary (printable t ns s o)
  check_refused k h = go view
    where
      go : View t ns s o → refused k ≡ each summary (printable t ns s o)
      go (unread m c p) = h ∙ ap (λ (y : Outcome Record). each summary y) (c ∙ sym p)
      go (too_deep_lem x c w p) = gives_refused (sym (h ∙ ap (λ (y : Outcome Record). each summary y) c))
      go (shown x c w p) = gives_refused (sym (h ∙ ap (λ (y : Outcome Record). each summary y) c))

  made_of : (x : Record) → checked_record t ns s o ≡ gives x → (d : Dtype) × (x ≡ made d s o) × InTableAt t 0 d
  made_of x c = let u = accepts_valid t ns s o x c in (u.0, u.1, valid_listed t ns s o u.0 u.2)

  module _ (f : Summary) (h : gives f ≡ each summary (checked_record t ns s o)) where
    not_refused : {A : Type 0} (k : ℕ) → checked_record t ns s o ≡ refused k → A
    not_refused k c = gives_refused (h ∙ ap (λ (y : Outcome Record). each summary y) c)

    pub accepted_listed : (d : Dtype) × InTableAt t 0 d
    accepted_listed = go view
      where
        go : View t ns s o → (d : Dtype) × InTableAt t 0 d
        go (unread k c p) = not_refused k c
        go (too_deep_lem x c w p) = let u = made_of x c in (u.0, u.2)
        go (shown x c w p) = let u = made_of x c in (u.0, u.2)

    module _ (r : Bool) (near : (d : Dtype) → InTableAt t 0 d → r ≡ within (value_of (descr_layout d)) 31) where
      brackets_are : (x : Record) → checked_record t ns s o ≡ gives x → r ≡ within (value_of (header_layout x)) 32
      brackets_are x c =
          let u = made_of x c in
          near u.0 u.2 ∙ sym (header_within u.0 s o) ∙ ap (λ (y : Record). within (value_of (header_layout y)) 32) (sym u.1)

      pub accepted_deep : r ≡ false → refused 7 ≡ each summary (printable t ns s o)
      accepted_deep z = go view
        where
          go : View t ns s o → refused 7 ≡ each summary (printable t ns s o)
          go (unread k c p) = not_refused k c
          go (too_deep_lem x c w p) = sym (ap (λ (y : Outcome Record). each summary y) p)
          go (shown x c w p) = true_false (sym w ∙ sym (brackets_are x c) ∙ z)

      pub accepted_shallow : r ≡ true → gives f ≡ each summary (printable t ns s o)
      accepted_shallow z = go view
        where
          go : View t ns s o → gives f ≡ each summary (printable t ns s o)
          go (unread k c p) = not_refused k c
          go (too_deep_lem x c w p) = true_false (sym z ∙ brackets_are x c ∙ w)
          go (shown x c w p) = h ∙ ap (λ (y : Outcome Record). each summary y) (c ∙ sym p)
