-- The definitions on the values with their places in the text give the values that crate record's definitions give.
use Prim.Native.Nat.{ℕ}
use mathlib.Core.Path.{◌≡◌, refl, sym, ap, ◌∙◌}
use mathlib.Core.List.{List}
use mathlib.Core.Bool.{Bool, true, false, cond}
use Rattle.counts.specs.Outcome.{Outcome, gives, refused, then, each}
use Rattle.literal_grammar.specs.Value.{Value, Items}
use Rattle.record.specs.Parts.{items_or}
use Rattle.record.specs.Dict.{last_of, needed}
use Rattle.literal_tokens.specs.Node.{Node, NodePairs, string, integer, True, False, None, list, tuple, dict, end_of_pairs, pair_then}
use Rattle.literal_bytes.specs.Got.{Got, got, fault, deep}
use Rattle.literal.specs.Forget.{forget, forget_pairs}
use Rattle.shape_text.specs.Answer.{value_or}
use Rattle.judge.specs.Pairs.{pairs_in, is_key, last_in, node_for}

pub items_in : (j : ℕ) (n : Node) → items_or j (forget n) ≡ each forget_pairs (pairs_in j n)
unfolding forget
items_in j (string p w) = refl
items_in j (integer p minus i) = refl
items_in j (True p) = refl
items_in j (False p) = refl
items_in j (None p) = refl
items_in j (list p ns) = refl
items_in j (tuple p ns) = refl
items_in j (dict p ps) = refl

chosen : (b : Bool) (v : Node) (was : Outcome Node) → each forget (cond b (gives v) was) ≡ cond b (gives (forget v)) (each forget was)
chosen true v was = refl
chosen false v was = refl

last_value : (w : List ℕ) (was : Outcome Node) (ps : NodePairs) → each forget (last_in w was ps) ≡ last_of w (each forget was) (forget_pairs ps)
unfolding forget_pairs
last_value w was end_of_pairs = refl
last_value w was (pair_then key v ps) = last_value w (cond (is_key w key) (gives v) was) ps ∙ ap (λ (o : Outcome Value). last_of w o (forget_pairs ps)) (chosen (is_key w key) v was)

-- the value that counts, and 9, as document 01 has them
pub node_value : (w : List ℕ) (g : Got Node) → each forget (node_for w g) ≡ then (then (value_or 9 g) (items_or 9)) (needed w)
node_value w (got n e) = go (pairs_in 9 n) ∙ ap (λ (o : Outcome Items). then o (needed w)) (sym (items_in 9 n))
  where
    go : (o : Outcome NodePairs) → each forget (then o (last_in w (refused 9))) ≡ then (each forget_pairs o) (needed w)
    go (gives ps) = last_value w (refused 9) ps
    go (refused m) = refl
node_value w (fault p) = refl
node_value w (deep p) = refl
