-- The pieces of a line joined, and the cases of its parts: parent, kind, type, name.
use Rattle.counts.specs.declared.Bytes.{Bytes}
use Rattle.std.specs.Prelude.{None, Some, Option}
use Prim.Native.Nat.{ℕ, zero, suc}
use native.Mathlib.Omega.{arith}
use mathlib.Core.Path.{◌≡◌, refl, sym, ap, subst, ◌∙◌}
use mathlib.Core.List.{List, [], ◌∷◌, ◌++◌}
use mathlib.Core.Bool.{Bool, true, false, ◌&&◌, not}
use lib.Dec.{eqb}
use borrow.Author.Tests.{eq-eqb, ne_eqb}
use Rattle.counts.specs.Outcome.{Outcome}
use Rattle.decimal.specs.Decimal.{printed}
use Rattle.emit.specs.Emits.{Emits}
use Rattle.emit.proofs.Pieces.{emits_then, emits_same, emits_none}
use Rattle.literal_grammar.specs.Print.{quote, print}
use Rattle.type_str.specs.Text.{type_text}
use Rattle.type_str.specs.declared.TypeStr.{TypeStr}
use Rattle.dtype.specs.declared.Entry.{Entry}
use Rattle.dtype.specs.declared.Order.{Order}
use Rattle.record.specs.Prefix.{Version, major}
use Rattle.dtype.specs.Agrees.{entry_at}
use Rattle.table_entry.specs.Answer.{type_answer}
use Rattle.table_entry.specs.EntryType.{type_of}
use Rattle.list_text.specs.Listing.{version_line, order_line, item_line, parent_text, type_text_in, kind_text, is_field, name_text, entry_line}

-- three pieces in turn
pub three :
    (f g h : List ℕ → List ℕ) (old : List ℕ) (at : ℕ) (m₁ : List ℕ) (p₁ : ℕ) (m₂ : List ℕ) (p₂ : ℕ) (out : List ℕ) (q : ℕ)
    → Emits f old at m₁ p₁ → Emits g m₁ p₁ m₂ p₂ → Emits h m₂ p₂ out q → Emits (λ x. f (g (h x))) old at out q
three f g h old at m₁ p₁ m₂ p₂ out q a b c = emits_then (λ x. f (g x)) h old at m₂ p₂ out q (emits_then f g old at m₁ p₁ m₂ p₂ a b) c

-- ---- the parent
module _ (p : ℕ) (old : List ℕ) (at : ℕ) (out : List ℕ) (q : ℕ) where
  pub no_parent : (e : ℕ) → e ≡ 0 → Emits (λ x. 45 ∷ x) old at out q → Emits (parent_text e p) old at out q
  no_parent zero z h = h
  no_parent (suc e) z h = absurd (omega (arith, z))

  pub a_parent : (e : ℕ) → (e ≡ 0 → ⊥) → Emits (printed p) old at out q → Emits (parent_text e p) old at out q
  a_parent zero n h = absurd (n refl)
  a_parent (suc e) n h = h

-- ---- the kind
module _ (entry : Entry) (old : List ℕ) (at : ℕ) (mid : List ℕ) (p : ℕ) (out : List ℕ) (q : ℕ) where
  pub kind_plain : (k : ℕ) → k ≡ 0 → Emits (λ x. (112 ∷ 108 ∷ 97 ∷ 105 ∷ 110 ∷ 32 ∷ []) ++ x) old at mid p → Emits (type_text_in (type_of entry)) mid p out q → Emits (kind_text k entry) old at out q
  kind_plain zero z a b = emits_then (λ x. (112 ∷ 108 ∷ 97 ∷ 105 ∷ 110 ∷ 32 ∷ []) ++ x) (type_text_in (type_of entry)) old at mid p out q a b
  kind_plain (suc k) z a b = absurd (omega (arith, z))

  pub kind_array : (k : ℕ) → k ≡ 1 → Emits (λ x. (97 ∷ 114 ∷ 114 ∷ 97 ∷ 121 ∷ 32 ∷ []) ++ x) old at mid p → Emits (printed entry.number) mid p out q → Emits (kind_text k entry) old at out q
  kind_array zero z a b = absurd (omega (arith, z))
  kind_array (suc zero) z a b = emits_then (λ x. (97 ∷ 114 ∷ 114 ∷ 97 ∷ 121 ∷ 32 ∷ []) ++ x) (printed entry.number) old at mid p out q a b
  kind_array (suc (suc k)) z a b = absurd (omega (arith, z))

  pub kind_record : (k : ℕ) → (k ≡ 0 → ⊥) → (k ≡ 1 → ⊥) → Emits (λ x. (114 ∷ 101 ∷ 99 ∷ 111 ∷ 114 ∷ 100 ∷ 32 ∷ []) ++ x) old at mid p → Emits (printed entry.number) mid p out q → Emits (kind_text k entry) old at out q
  kind_record zero n m a b = absurd (n refl)
  kind_record (suc zero) n m a b = absurd (m refl)
  kind_record (suc (suc k)) n m a b = emits_then (λ x. (114 ∷ 101 ∷ 99 ∷ 111 ∷ 114 ∷ 100 ∷ 32 ∷ []) ++ x) (printed entry.number) old at mid p out q a b

-- ---- the type
pub type_given : (r : Option TypeStr) (o : Outcome TypeStr) (t : TypeStr) (old : List ℕ) (at : ℕ) (out : List ℕ) (p : ℕ) → type_answer r ≡ o → r ≡ Some t → Emits (type_text t) old at out p → Emits (type_text_in o) old at out p
type_given r o t old at out p h e k = subst (λ (y : Outcome TypeStr). Emits (type_text_in y) old at out p) (sym (ap type_answer e) ∙ h) k

pub type_none : (r : Option TypeStr) (o : Outcome TypeStr) (old : List ℕ) (at : ℕ) → type_answer r ≡ o → r ≡ None → Emits (type_text_in o) old at old at
type_none r o old at h e = subst (λ (y : Outcome TypeStr). Emits (type_text_in y) old at old at) (sym (ap type_answer e) ∙ h) (emits_none old at)

-- ---- the name
pub not_field : (t : List ℕ) (e : ℕ) → e ≡ 0 → false ≡ is_field t e
not_field t e z = sym (ap (λ (b : Bool). not b && eqb (entry_at t (entry_at t e).parent).kind 2) (eq-eqb e 0 z))

pub below : (t : List ℕ) (e parent : ℕ) (above : Entry) → (e ≡ 0 → ⊥) → above ≡ entry_at t parent → parent ≡ (entry_at t e).parent → eqb above.kind 2 ≡ is_field t e
below t e parent above n h p =
    ap (λ (a : Entry). eqb a.kind 2) (h ∙ ap (entry_at t) p)
    ∙ sym (ap (λ (b : Bool). not b && eqb (entry_at t (entry_at t e).parent).kind 2) (ne_eqb e 0 n))

module _ (name : List ℕ) (old : List ℕ) (at : ℕ) where
  pub no_name : (field : Bool) → field ≡ false → Emits (name_text field name) old at old at
  no_name field z = subst (λ (b : Bool). Emits (name_text b name) old at old at) (sym z) (emits_none old at)

  pub a_name : (field : Bool) (mid : List ℕ) (p : ℕ) (out : List ℕ) (q : ℕ) → field ≡ true → Emits (λ x. 32 ∷ x) old at mid p → Emits (print (quote name)) mid p out q → Emits (name_text field name) old at out q
  a_name field mid p out q z a b =
      subst (λ (c : Bool). Emits (name_text c name) old at out q) (sym z) (emits_then (λ x. 32 ∷ x) (print (quote name)) old at mid p out q a b)

-- ---- a line
pub line_of :
    (t : List ℕ) (e : ℕ) (name : List ℕ) (entry : Entry) (field : Bool) (old : List ℕ) (at : ℕ) (m₁ : List ℕ) (p₁ : ℕ) (m₂ : List ℕ) (p₂ : ℕ) (m₃ : List ℕ) (p₃ : ℕ) (m₄ : List ℕ) (p₄ : ℕ) (m₅ : List ℕ) (p₅ : ℕ) (m₆ : List ℕ) (p₆ : ℕ) (out : List ℕ) (q : ℕ)
    → entry ≡ entry_at t e → (entry.parent ≡ (entry_at t e).parent → field ≡ is_field t e)
    → Emits (printed e) old at m₁ p₁ → Emits (λ x. 32 ∷ x) m₁ p₁ m₂ p₂ → Emits (parent_text e entry.parent) m₂ p₂ m₃ p₃ → Emits (λ x. 32 ∷ x) m₃ p₃ m₄ p₄
    → Emits (kind_text entry.kind entry) m₄ p₄ m₅ p₅ → Emits (name_text field name) m₅ p₅ m₆ p₆ → Emits (λ x. 10 ∷ x) m₆ p₆ out q
    → Emits (entry_line t e name) old at out q
line_of t e name entry field old at m₁ p₁ m₂ p₂ m₃ p₃ m₄ p₄ m₅ p₅ m₆ p₆ out q he hf a b c d f g h =
    let joined =
    three (λ x. printed e (32 ∷ parent_text e entry.parent x)) (λ x. 32 ∷ kind_text entry.kind entry x) (λ x. name_text field name (10 ∷ x)) old at m₃ p₃ m₅ p₅ out q
    (three (printed e) (λ x. 32 ∷ x) (parent_text e entry.parent) old at m₁ p₁ m₂ p₂ m₃ p₃ a b c)
    (emits_then (λ x. 32 ∷ x) (kind_text entry.kind entry) m₃ p₃ m₄ p₄ m₅ p₅ d f)
    (emits_then (name_text field name) (λ x. 10 ∷ x) m₅ p₅ m₆ p₆ out q g h)
    in
    emits_same (λ x. printed e (32 ∷ parent_text e entry.parent (32 ∷ kind_text entry.kind entry (name_text field name (10 ∷ x))))) (entry_line t e name) old at out q
    (λ x.
    ap (λ (n : Entry). printed e (32 ∷ parent_text e n.parent (32 ∷ kind_text n.kind n (name_text field name (10 ∷ x))))) he
    ∙ ap (λ (b : Bool). printed e (32 ∷ parent_text e (entry_at t e).parent (32 ∷ kind_text (entry_at t e).kind (entry_at t e) (name_text b name (10 ∷ x))))) (hf (ap (λ (n : Entry). n.parent) he)))
    joined

-- ---- what is put for a value that is known
module _ (old : List ℕ) (at : ℕ) (out : List ℕ) (p : ℕ) where
  pub order_known : (o o' : Order) → o ≡ o' → Emits (order_line o') old at out p → Emits (order_line o) old at out p
  order_known o o' e h = subst (λ (y : Order). Emits (order_line y) old at out p) (sym e) h

  pub size_known : (s s' : Option Bytes) → s ≡ s' → Emits (item_line s') old at out p → Emits (item_line s) old at out p
  size_known s s' e h = subst (λ (y : Option Bytes). Emits (item_line y) old at out p) (sym e) h

  pub version_known : (v : Version) (n : ℕ) → n ≡ major v → Emits (λ x. (118 ∷ 101 ∷ 114 ∷ 115 ∷ 105 ∷ 111 ∷ 110 ∷ 32 ∷ []) ++ printed n (46 ∷ 48 ∷ 10 ∷ x)) old at out p → Emits (version_line v) old at out p
  version_known v n e h = subst (λ (y : ℕ). Emits (λ x. (118 ∷ 101 ∷ 114 ∷ 115 ∷ 105 ∷ 111 ∷ 110 ∷ 32 ∷ []) ++ printed y (46 ∷ 48 ∷ 10 ∷ x)) old at out p) e h
