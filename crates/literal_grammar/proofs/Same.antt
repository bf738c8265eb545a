-- The layers and the grammar say the same: `Literal k s v` exactly where `GivesIn k s v` (`given`, `at_depth`), and every value has some depth
-- (`some_depth`), so `Gives s v` exactly where some limit allows it. One way by layers, the other by the grammar's derivations.
use Prim.Native.Nat.{ℕ, zero, suc, ◌+◌}
use mathlib.Core.Path.{◌≡◌, refl, sym, ap, subst}
use mathlib.Core.Logic.{inl, inr}
use mathlib.Core.List.{List, [], ◌∷◌, ◌++◌, append_assoc, append-nil}
use mathlib.Core.Bool.{Bool, true, false}
use Rattle.literal_grammar.specs.Value.{Value, Values, Items, string, integer, True, False, None, list, tuple, dict, end_of_values, value_then, end_of_items, item_then, Within, AllWithin, ItemsWithin}
use Rattle.literal_grammar.proofs.Lists.{Item, values, items}
use Rattle.literal_grammar.specs.Grammar.{Plain, in_quotes, unsigned, minus_sign, word_true, word_false, word_none, Gives, plain, around, in_square, in_round, in_braces, Listed, no_values, last_value, value_comma, Tupled, no_elements, element_comma, Paired, no_items, last_item, item_comma}
use Rattle.literal_grammar.specs.Promise.{GivesIn}
use Rattle.literal_grammar.proofs.Texts.{Blanks, all_append}
use Rattle.literal_grammar.proofs.Layers.{Padded, padded, Parted, empty, last, more, Pair, pair, item, upto, Bracket, square, round, curly, Layer, Literal, plain_in, raise, raise'}

-- ---- every value has some depth
mutual
  unfolding Within AllWithin ItemsWithin

  within_suc : (v : Value) (k : ℕ) → Within v k → Within v (suc k)
  within_suc (string w) k h = tt
  within_suc (integer minus n) k h = tt
  within_suc True k h = tt
  within_suc False k h = tt
  within_suc None k h = tt
  within_suc (list vs) zero h = absurd h
  within_suc (list vs) (suc k) h = all_suc vs k h
  within_suc (tuple vs) zero h = absurd h
  within_suc (tuple vs) (suc k) h = all_suc vs k h
  within_suc (dict es) zero h = absurd h
  within_suc (dict es) (suc k) h = items_suc es k h

  all_suc : (vs : Values) (k : ℕ) → AllWithin vs k → AllWithin vs (suc k)
  all_suc end_of_values k h = tt
  all_suc (value_then v vs) k h = (within_suc v k h.0, all_suc vs k h.1)

  items_suc : (es : Items) (k : ℕ) → ItemsWithin es k → ItemsWithin es (suc k)
  items_suc end_of_items k h = tt
  items_suc (item_then key v es) k h = (within_suc key k h.0, within_suc v k h.1, items_suc es k h.2)

mutual
  unfolding Within AllWithin ItemsWithin

  pub some_depth : (v : Value) → (k : ℕ) × Within v k
  some_depth (string w) = (0, tt)
  some_depth (integer minus n) = (0, tt)
  some_depth True = (0, tt)
  some_depth False = (0, tt)
  some_depth None = (0, tt)
  some_depth (list vs) = let (k, h) = all_depth vs in (suc k, h)
  some_depth (tuple vs) = let (k, h) = all_depth vs in (suc k, h)
  some_depth (dict es) = let (k, h) = items_depth es in (suc k, h)

  all_depth : (vs : Values) → (k : ℕ) × AllWithin vs k
  all_depth end_of_values = (0, tt)
  all_depth (value_then v vs) =
      let (k, h) = some_depth v in
      let (j, g) = all_depth vs in
      (j + k, (raise (Within v) (within_suc v) k j h, raise' (AllWithin vs) (all_suc vs) j k g))

  items_depth : (es : Items) → (k : ℕ) × ItemsWithin es k
  items_depth end_of_items = (0, tt)
  items_depth (item_then key v es) =
      let (k, h) = some_depth key in
      let (j, g) = some_depth v in
      let (n, f) = items_depth es in
      (n + (j + k), (raise (Within key) (within_suc key) (j + k) n (raise (Within key) (within_suc key) k j h), raise (Within v) (within_suc v) (j + k) n (raise' (Within v) (within_suc v) j k g), raise' (ItemsWithin es) (items_suc es) n (j + k) f))

-- ---- from the grammar to the layers
module _ {A : Type 0} (R : List ℕ → A → Type 0) where
  bare : (u : List ℕ) (v : A) → R u v → Padded R u v
  bare u v x = subst (λ y. Padded R y v) (append-nil u) (padded [] u [] tt x tt)

  widened : {x : List ℕ} {v : A} (a b : List ℕ) → Blanks a → Padded R x v → Blanks b → Padded R (a ++ x ++ b) v
  widened {v = v} a b ba (padded c y d bc r bd) bb =
      let e : (a ++ c) ++ (y ++ (d ++ b)) ≡ a ++ (c ++ (y ++ d)) ++ b = simp append_assoc in
      subst (λ z. Padded R z v) e (padded (a ++ c) y (d ++ b) (all_append _ a c ba bc) r (all_append _ d b bd bb))

colon : (R : List ℕ → Value → Type 0) {x y : List ℕ} {k v : Value} → Padded R x k → Padded R y v → Padded (Pair R) (x ++ 58 ∷ y) (item k v)
colon R {k = k} {v = v} (padded a x b ba rx bb) (padded c y d bc ry bd) =
    let e : a ++ ((x ++ (b ++ (58 ∷ (c ++ y)))) ++ d) ≡ (a ++ (x ++ b)) ++ 58 ∷ (c ++ (y ++ d)) = simp append_assoc in
    subst (λ z. Padded (Pair R) z (item k v)) e (padded a (x ++ (b ++ (58 ∷ (c ++ y)))) d ba (pair x b c y rx bb bc ry) bd)

-- the members, as a list
abbrev Members : ℕ → Bool → List ℕ → Values → Type 0
Members k lone u vs = (ws : List Value) × (values ws ≡ vs) × Parted (Layer k) lone u ws

abbrev Entries : ℕ → List ℕ → Items → Type 0
Entries k u es = (ws : List Item) × (items ws ≡ es) × Parted (Pair (Layer k)) true u ws

-- a bracket takes one of the brackets that may be open
of_square : (k : ℕ) (u : List ℕ) (vs : Values) → Within (list vs) k → ((j : ℕ) → AllWithin vs j → Members j true u vs) → Layer k (91 ∷ u ++ 93 ∷ []) (list vs)
unfolding Within
of_square zero u vs h f = absurd h
of_square (suc k) u vs h f = let (ws, e, x) = f k h in subst (λ y. Layer (suc k) (91 ∷ u ++ 93 ∷ []) (list y)) e (inr (square (upto u x)))

of_round : (k : ℕ) (u : List ℕ) (vs : Values) → Within (tuple vs) k → ((j : ℕ) → AllWithin vs j → Members j false u vs) → Layer k (40 ∷ u ++ 41 ∷ []) (tuple vs)
unfolding Within
of_round zero u vs h f = absurd h
of_round (suc k) u vs h f = let (ws, e, x) = f k h in subst (λ y. Layer (suc k) (40 ∷ u ++ 41 ∷ []) (tuple y)) e (inr (round (upto u x)))

of_braces : (k : ℕ) (u : List ℕ) (es : Items) → Within (dict es) k → ((j : ℕ) → ItemsWithin es j → Entries j u es) → Layer k (123 ∷ u ++ 125 ∷ []) (dict es)
unfolding Within
of_braces zero u es h f = absurd h
of_braces (suc k) u es h f = let (ws, e, x) = f k h in subst (λ y. Layer (suc k) (123 ∷ u ++ 125 ∷ []) (dict y)) e (inr (curly (upto u x)))

whole : (k : ℕ) {s : List ℕ} (u : List ℕ) {v : Value} → s ≡ u → Layer k u v → Literal k s v
whole k u {v = v} e x = subst (λ y. Literal k y v) (sym e) (bare (Layer k) u v x)

first_of : (k : ℕ) (lone : Bool) {s : List ℕ} {v : Value} {vs : Values} (u w : List ℕ) → s ≡ u ++ 44 ∷ w → Literal k u v → Members k true w vs → Members k lone s (value_then v vs)
first_of k lone {v = v} u w e x (ws, ew, i) = (v ∷ ws, ap (value_then v) ew, subst (λ y. Parted (Layer k) lone y (v ∷ ws)) (sym e) (more x i))

mutual
  unfolding AllWithin ItemsWithin

  pub at_depth : {s : List ℕ} {v : Value} → Gives s v → (k : ℕ) → Within v k → Literal k s v
  at_depth (plain {s = s} {v = v} x) k h = bare (Layer k) s v (plain_in k s v x)
  at_depth (around {v = v} a x b e ba g bb) k h = subst (λ y. Literal k y v) (sym e) (widened (Layer k) a b ba (at_depth g k h) bb)
  at_depth (in_square {vs = vs} u e i) k h = whole k (91 ∷ u ++ 93 ∷ []) e (of_square k u vs h (λ j z. listed_at i j z))
  at_depth (in_round {vs = vs} u e i) k h = whole k (40 ∷ u ++ 41 ∷ []) e (of_round k u vs h (λ j z. tupled_at i j z))
  at_depth (in_braces {es = es} u e i) k h = whole k (123 ∷ u ++ 125 ∷ []) e (of_braces k u es h (λ j z. paired_at i j z))

  listed_at : {s : List ℕ} {vs : Values} → Listed s vs → (k : ℕ) → AllWithin vs k → Members k true s vs
  listed_at (no_values {u = u} bu) k h = ([], refl, empty u bu)
  listed_at (last_value {v = v} g) k h = (v ∷ [], refl, last (at_depth g k h.0))
  listed_at (value_comma u w e g i) k h = first_of k true u w e (at_depth g k h.0) (listed_at i k h.1)

  tupled_at : {s : List ℕ} {vs : Values} → Tupled s vs → (k : ℕ) → AllWithin vs k → Members k false s vs
  tupled_at (no_elements {u = u} bu) k h = ([], refl, empty u bu)
  tupled_at (element_comma u w e g i) k h = first_of k false u w e (at_depth g k h.0) (listed_at i k h.1)

  paired_at : {s : List ℕ} {es : Items} → Paired s es → (k : ℕ) → ItemsWithin es k → Entries k s es
  paired_at (no_items {u = u} bu) k h = ([], refl, empty u bu)
  paired_at (last_item {k = key} {v = v} x y e g f) k h =
      (item key v ∷ [], refl, subst (λ z. Parted (Pair (Layer k)) true z (item key v ∷ [])) (sym e) (last (colon (Layer k) (at_depth g k h.0) (at_depth f k h.1))))
  paired_at (item_comma {k = key} {v = v} x y w e g f i) k h =
      let (ws, ew, z) = paired_at i k h.2 in
      (item key v ∷ ws, ap (item_then key v) ew, subst (λ z. Parted (Pair (Layer k)) true z (item key v ∷ ws)) (sym e) (more (colon (Layer k) (at_depth g k h.0) (at_depth f k h.1)) z))

pub some_layer : (s : List ℕ) (v : Value) → Gives s v → (k : ℕ) × Literal k s v
some_layer s v g = let (k, h) = some_depth v in (k, at_depth g k h)

-- ---- from the layers to the grammar
plain_within : (k : ℕ) (u : List ℕ) (v : Value) → Plain u v → Within v k
unfolding Within
plain_within k u v (in_quotes h x) = tt
plain_within k u v (unsigned x) = tt
plain_within k u v (minus_sign x) = tt
plain_within k u v word_true = tt
plain_within k u v word_false = tt
plain_within k u v word_none = tt

-- between the brackets of a list, or of a tuple
abbrev Between : Bool → List ℕ → Values → Type 0
Between true u vs = Listed u vs
Between false u vs = Tupled u vs

between_none : (lone : Bool) (u : List ℕ) → Blanks u → Between lone u end_of_values
between_none true u bu = no_values bu
between_none false u bu = no_elements bu

between_comma : (lone : Bool) (u w : List ℕ) (v : Value) (vs : Values) → Gives u v → Listed w vs → Between lone (u ++ (44 ∷ w)) (value_then v vs)
between_comma true u w v vs g i = value_comma u w refl g i
between_comma false u w v vs g i = element_comma u w refl g i

module _ (k : ℕ) (back : (u : List ℕ) (v : Value) → Layer k u v → GivesIn k u v) where
  padded_given : (u : List ℕ) (v : Value) → Literal k u v → GivesIn k u v
  padded_given u v (padded a x b ba r bb) = let (g, h) = back x v r in (around a x b (sym (append_assoc a x b)) ba g bb, h)

  parted_given : (lone : Bool) (u : List ℕ) (vs : List Value) → Parted (Layer k) lone u vs → Between lone u (values vs) × AllWithin (values vs) k
  unfolding AllWithin
  parted_given lone u vs (empty w bw) = (between_none lone w bw, tt)
  parted_given lone u vs (last {v = v} p) = let (g, h) = padded_given u v p in (last_value g, (h, tt))
  parted_given lone u vs (more {u = x} {w = w} {v = v} {vs = ws} p i) =
      let (g, h) = padded_given x v p in
      let (f, z) = parted_given true w ws i in
      (between_comma lone x w v (values ws) g f, (h, z))

  pair_given : (u : List ℕ) (e : Item) → Padded (Pair (Layer k)) u e → (x y : List ℕ) × (u ≡ x ++ 58 ∷ y) × GivesIn k x e.key × GivesIn k y e.value
  pair_given u e (padded a p d ba (pair x b c y {k = key} {v = v} rx bb bc ry) bd) =
      (a ++ (x ++ b), c ++ (y ++ d), simp append_assoc, padded_given (a ++ (x ++ b)) key (padded a x b ba rx bb), padded_given (c ++ (y ++ d)) v (padded c y d bc ry bd))

  paired_given : (lone : Bool) (u : List ℕ) (es : List Item) → Parted (Pair (Layer k)) lone u es → Paired u (items es) × ItemsWithin (items es) k
  unfolding ItemsWithin
  paired_given lone u es (empty w bw) = (no_items bw, tt)
  paired_given lone u es (last {v = e} p) = let (x, y, eq, (g, h), (f, z)) = pair_given u e p in (last_item x y eq g f, (h, z, tt))
  paired_given lone u es (more {u = m} {w = w} {v = e} {vs = ws} p i) =
      let (x, y, eq, (g, h), (f, z)) = pair_given m e p in
      let (n, o) = paired_given true w ws i in
      (item_comma x y w (ap (λ t. t ++ (44 ∷ w)) eq) g f n, (h, z, o))

  bracket_given : (u : List ℕ) (v : Value) → Bracket (Layer k) u v → GivesIn (suc k) u v
  unfolding Within
  bracket_given u v (square (upto w {v = vs} i)) = let (g, h) = parted_given true w vs i in (in_square w refl g, h)
  bracket_given u v (round (upto w {v = vs} i)) = let (g, h) = parted_given false w vs i in (in_round w refl g, h)
  bracket_given u v (curly (upto w {v = es} i)) = let (g, h) = paired_given true w es i in (in_braces w refl g, h)

layer_given : (k : ℕ) (u : List ℕ) (v : Value) → Layer k u v → GivesIn k u v
layer_given zero u v x = (plain x, plain_within zero u v x)
layer_given (suc k) u v (inl x) = (plain x, plain_within (suc k) u v x)
layer_given (suc k) u v (inr x) = bracket_given k (layer_given k) u v x

pub given : (k : ℕ) (s : List ℕ) (v : Value) → Literal k s v → GivesIn k s v
given k = padded_given k (layer_given k)
