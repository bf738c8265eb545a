-- The order that a value declares, by the kind of its first byte.
use Rattle.std.specs.Prelude.{Err}
use Prim.Native.Nat.{ℕ}
use mathlib.Core.Path.{◌≡◌, refl, sym, ap, ◌∙◌}
use mathlib.Core.List.{List, [], ◌∷◌}
use denote.Enum.Declared.{tag_of}
use types.Run.{OneOf, miss}
use Rattle.counts.specs.Outcome.{gives, refused}
use Rattle.dtype.specs.declared.Order.TheVariants.{C, Fortran}
use Rattle.record.specs.FromValue.{declared_order}
use Rattle.literal_tokens.specs.Node.{Node}
use Rattle.literal_bytes.specs.Got.{got}
use Rattle.literal_bytes.specs.Text.{byte_at, kind_of}
use Rattle.literal_bytes.specs.declared.ValueKind.{ValueKind}
use Rattle.literal_bytes.specs.declared.ValueKind.TheVariants.{Square, Round, Curly, Quote, Minus, Digit, TrueWord, FalseWord, NoneWord, Other}
use Rattle.literal_bytes.specs.contracts.ValueKind.{the_type}
use Rattle.literal.specs.Forget.{forget}
use Rattle.literal.specs.Literal.{value}
use Rattle.literal.proofs.View.{view, View}
use Rattle.refusal.specs.declared.Refusal.{Refusal}
use Rattle.judge_names.specs.Answer.{word_of}

-- what the arm of the other kinds knows
abbrev pub NoWord : ValueKind → Type 0
NoWord c = OneOf (0 ∷ 1 ∷ 2 ∷ 3 ∷ 4 ∷ 5 ∷ 8 ∷ 9 ∷ []) (tag_of the_type c)

pub no_word : (c : ValueKind) → NoWord c → Err Refusal.NotBoolean ≡ word_of c
no_word Square o = refl
no_word Round o = refl
no_word Curly o = refl
no_word Quote o = refl
no_word Minus o = refl
no_word Digit o = refl
no_word TrueWord o = absurd (miss (0 ∷ 1 ∷ 2 ∷ 3 ∷ 4 ∷ 5 ∷ 8 ∷ 9 ∷ []) 6 tt o)
no_word FalseWord o = absurd (miss (0 ∷ 1 ∷ 2 ∷ 3 ∷ 4 ∷ 5 ∷ 8 ∷ 9 ∷ []) 7 tt o)
no_word NoneWord o = refl
no_word Other o = refl

module _ (k : ℕ) (s : List ℕ) (at e : ℕ) (n : Node) (h : value k s at ≡ got n e) where
  order_of_lem : {m : Node} → n ≡ m → declared_order (forget n) ≡ declared_order (forget m)
  order_of_lem z = ap (λ (x : Node). declared_order (forget x)) z

  order_by : (c : ValueKind) → NoWord c → View c k s at n e → declared_order (forget n) ≡ refused 10
  unfolding forget
  order_by Square o v = order_of_lem v.2
  order_by Round o v = order_of_lem v.2
  order_by Curly o v = order_of_lem v.2
  order_by Quote o v = order_of_lem v.0
  order_by Minus o v = order_of_lem v.0
  order_by Digit o v = order_of_lem v.0
  order_by TrueWord o v = absurd (miss (0 ∷ 1 ∷ 2 ∷ 3 ∷ 4 ∷ 5 ∷ 8 ∷ 9 ∷ []) 6 tt o)
  order_by FalseWord o v = absurd (miss (0 ∷ 1 ∷ 2 ∷ 3 ∷ 4 ∷ 5 ∷ 8 ∷ 9 ∷ []) 7 tt o)
  order_by NoneWord o v = order_of_lem v
  order_by Other o v = absurd v

  pub order_true : (c : ValueKind) → c ≡ kind_of (byte_at s at) → c ≡ TrueWord → declared_order (forget n) ≡ gives Fortran
  unfolding forget
  order_true c hk z = order_of_lem (view k s at h (sym hk ∙ z))

  pub order_false : (c : ValueKind) → c ≡ kind_of (byte_at s at) → c ≡ FalseWord → declared_order (forget n) ≡ gives C
  unfolding forget
  order_false c hk z = order_of_lem (view k s at h (sym hk ∙ z))

  pub order_other : (c : ValueKind) → c ≡ kind_of (byte_at s at) → NoWord c → declared_order (forget n) ≡ refused 10
  order_other c hk o = order_by c o (view k s at h (sym hk))
