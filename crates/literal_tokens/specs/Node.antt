-- Document 01, "The literal": "A value is a string, an integer, `True`, `False`, `None`, a list, a tuple or a dict. A list holds values, and a
-- value may be a list." A value as read from a text, with the place of each part; the value alone is `forget` (literal/specs/Forget.antt).
use Rattle.std.specs.Prelude.{ℕ, List, [], ◌∷◌, Bool}

-- the position of the first byte, and the position after the last
pub record Span : Type 0 where
  pub begin : ℕ
  pub end : ℕ

-- the span from b up to e
abbrev pub span : ℕ → ℕ → Span
span b e = record { begin = b; end = e }

mutual
  -- a string is its decoded bytes; an integer is whether it has a `-`, and the number that its digits write
  pub data Node : Type 0 where
    string : Span → List ℕ → Node
    integer : Span → (minus : Bool) → ℕ → Node
    True False None : Span → Node
    list tuple : Span → Nodes → Node
    dict : Span → NodePairs → Node

  pub data Nodes : Type 0 where
    end_of_nodes : Nodes
    node_then : Node → Nodes → Nodes

  -- the `key: value` items of a dict, in the order of the text
  pub data NodePairs : Type 0 where
    end_of_pairs : NodePairs
    pair_then : (key value : Node) → NodePairs → NodePairs

-- one `key: value` item
pub record Pair : Type 0 where
  pub key : Node
  pub value : Node

abbrev pub pair : Node → Node → Pair
pair k v = record { key = k; value = v }

-- a list of nodes as `Nodes`
abbrev pub nodes : List Node → Nodes
nodes [] = end_of_nodes
nodes (n ∷ ns) = node_then n (nodes ns)

-- a list of pairs as `NodePairs`
abbrev pub pairs : List Pair → NodePairs
pairs [] = end_of_pairs
pairs (p ∷ ps) = pair_then p.key p.value (pairs ps)
