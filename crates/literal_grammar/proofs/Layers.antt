-- The grammar once more, layer by layer: each rule is about any relation R of the layer below, so that a law on one layer is a law on all. A text
-- of `Layer k` has at most k brackets open at once, as `Gives` and `Within` say of it (Same.antt). Lists, tuples and dicts share the rules of
-- `Parted`.
use Prim.Native.Nat.{ℕ, zero, suc, ◌+◌}
use native.Mathlib.Omega.{arith}
use mathlib.Core.Path.{◌≡◌, subst}
use mathlib.Core.Logic.{◌⊎◌, inl, inr}
use mathlib.Core.List.{List, [], ◌∷◌, ◌++◌}
use mathlib.Core.Bool.{Bool, true, false}
use Rattle.literal_grammar.specs.Value.{Value, list, tuple, dict}
use Rattle.literal_grammar.proofs.Lists.{Item, values, items}
use Rattle.literal_grammar.specs.Grammar.{Plain}
use Rattle.literal_grammar.proofs.Texts.{Blanks}

-- with blanks around it
pub data Padded {A : Type 0} (R : List ℕ → A → Type 0) : List ℕ → A → Type 0 where
  padded : (a x b : List ℕ) {v : A} → Blanks a → R x v → Blanks b → Padded R (a ++ (x ++ b)) v

-- things parted by commas; `lone` says that the last one may be without its comma
pub data Parted {A : Type 0} (R : List ℕ → A → Type 0) : Bool → List ℕ → List A → Type 0 where
  empty : {lone : Bool} (u : List ℕ) → Blanks u → Parted R lone u []
  last : {u : List ℕ} {v : A} → Padded R u v → Parted R true u (v ∷ [])
  more : {lone : Bool} {u w : List ℕ} {v : A} {vs : List A} → Padded R u v → Parted R true w vs → Parted R lone (u ++ (44 ∷ w)) (v ∷ vs)

abbrev pub item : Value → Value → Item
item k v = record { key = k; value = v }

-- key, colon, value
pub data Pair (R : List ℕ → Value → Type 0) : List ℕ → Item → Type 0 where
  pair : (x a b y : List ℕ) {k v : Value} → R x k → Blanks a → Blanks b → R y v → Pair R (x ++ (a ++ (58 ∷ (b ++ y)))) (item k v)

-- up to the closing bracket c
pub data Upto {A : Type 0} (c : ℕ) (Q : List ℕ → A → Type 0) : List ℕ → A → Type 0 where
  upto : (u : List ℕ) {v : A} → Q u v → Upto c Q (u ++ (c ∷ [])) v

abbrev pub list_of : List Value → Value
list_of vs = list (values vs)

abbrev pub tuple_of : List Value → Value
tuple_of vs = tuple (values vs)

abbrev pub dict_of : List Item → Value
dict_of es = dict (items es)

-- a list, a tuple or a dict of what R gives
pub data Bracket (R : List ℕ → Value → Type 0) : List ℕ → Value → Type 0 where
  square : {u : List ℕ} {vs : List Value} → Upto 93 (Parted R true) u vs → Bracket R (91 ∷ u) (list_of vs)
  round : {u : List ℕ} {vs : List Value} → Upto 41 (Parted R false) u vs → Bracket R (40 ∷ u) (tuple_of vs)
  curly : {u : List ℕ} {es : List Item} → Upto 125 (Parted (Pair R) true) u es → Bracket R (123 ∷ u) (dict_of es)

-- a value with at most k brackets open at once
abbrev pub Layer : ℕ → List ℕ → Value → Type 0
Layer zero u v = Plain u v
Layer (suc k) u v = Plain u v ⊎ Bracket (Layer k) u v

-- a whole text
abbrev pub Literal : ℕ → List ℕ → Value → Type 0
Literal k = Padded (Layer k)

pub plain_in : (k : ℕ) (u : List ℕ) (v : Value) → Plain u v → Layer k u v
plain_in zero u v x = x
plain_in (suc k) u v x = inl x

-- ---- what R gives Q gives too
module _ {A : Type 0} (R Q : List ℕ → A → Type 0) (sub : (u : List ℕ) (v : A) → R u v → Q u v) where
  pub padded_sub : (u : List ℕ) (v : A) → Padded R u v → Padded Q u v
  padded_sub u v (padded a x b ba r bb) = padded a x b ba (sub x _ r) bb

  parted_sub : (lone : Bool) (u : List ℕ) (vs : List A) → Parted R lone u vs → Parted Q lone u vs
  parted_sub lone u vs (empty w bw) = empty w bw
  parted_sub lone u vs (last p) = last (padded_sub _ _ p)
  parted_sub lone u vs (more p i) = more (padded_sub _ _ p) (parted_sub true _ _ i)

upto_sub : {A : Type 0} (c : ℕ) (R Q : List ℕ → A → Type 0) → ((u : List ℕ) (v : A) → R u v → Q u v) → (u : List ℕ) (v : A) → Upto c R u v → Upto c Q u v
upto_sub c R Q sub u v (upto w x) = upto w (sub w _ x)

module _ (R Q : List ℕ → Value → Type 0) (sub : (u : List ℕ) (v : Value) → R u v → Q u v) where
  pub pair_sub : (u : List ℕ) (e : Item) → Pair R u e → Pair Q u e
  pair_sub u e (pair x a b y rx ba bb ry) = pair x a b y (sub x _ rx) ba bb (sub y _ ry)

  bracket_sub : (u : List ℕ) (v : Value) → Bracket R u v → Bracket Q u v
  bracket_sub u v (square x) = square (upto_sub 93 (Parted R true) (Parted Q true) (parted_sub R Q sub true) _ _ x)
  bracket_sub u v (round x) = round (upto_sub 41 (Parted R false) (Parted Q false) (parted_sub R Q sub false) _ _ x)
  bracket_sub u v (curly x) = curly (upto_sub 125 (Parted (Pair R) true) (Parted (Pair Q) true) (parted_sub (Pair R) (Pair Q) pair_sub true) _ _ x)

-- ---- a limit may be wider
pub deeper : (k : ℕ) (u : List ℕ) (v : Value) → Layer k u v → Layer (suc k) u v
deeper zero u v x = inl x
deeper (suc k) u v (inl x) = inl x
deeper (suc k) u v (inr x) = inr (bracket_sub (Layer k) (Layer (suc k)) (deeper k) u v x)

-- a law that holds of a limit's successor holds of every wider limit
pub raise : (P : ℕ → Type 0) → ((k : ℕ) → P k → P (suc k)) → (k j : ℕ) → P k → P (j + k)
raise P on k zero x = let e : k ≡ zero + k = omega arith in subst P e x
raise P on k (suc j) x = let e : suc (j + k) ≡ suc j + k = omega arith in subst P e (on (j + k) (raise P on k j x))

pub raise' : (P : ℕ → Type 0) → ((k : ℕ) → P k → P (suc k)) → (k j : ℕ) → P k → P (k + j)
raise' P on k j x = let e : j + k ≡ k + j = omega arith in subst P e (raise P on k j x)
