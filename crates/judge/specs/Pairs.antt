-- Document 01, "The record": "The value must be a dict whose keys are all strings. Extra keys are ignored; of equal keys the last counts." The
-- definitions of crate record on the values with their places in the text, so that the place of the value that counts is known. That they give the same
-- values is proofs/Nodes.antt.
use Rattle.std.specs.Prelude.{ℕ, List, Bool, false, cond}
use Rattle.counts.specs.Outcome.{Outcome, gives, refused, then}
use Rattle.literal_grammar.specs.Value.{Items}
use Rattle.record.specs.Parts.{string_or, items_or}
use Rattle.record.specs.Dict.{is_the, all_strings}
use Rattle.literal_tokens.specs.Node.{Node, NodePairs, string, integer, True, False, None, list, tuple, dict, end_of_pairs, pair_then}
use Rattle.literal_bytes.specs.Got.{Got, got, fault, deep}
use Rattle.literal.specs.Forget.{forget}
use Rattle.shape_text.specs.Answer.{value_or}

-- the items of a dict, or refused with n
abbrev pub pairs_in : ℕ → Node → Outcome NodePairs
pairs_in n (string p w) = refused n
pairs_in n (integer p minus i) = refused n
pairs_in n (True p) = refused n
pairs_in n (False p) = refused n
pairs_in n (None p) = refused n
pairs_in n (list p ns) = refused n
pairs_in n (tuple p ns) = refused n
pairs_in n (dict p ps) = gives ps

-- the dict that was read, or refused with n
abbrev pub pairs_or : ℕ → Got Node → Outcome NodePairs
pairs_or n (got v e) = pairs_in n v
pairs_or n (fault p) = refused n
pairs_or n (deep p) = refused n

-- whether the string of a value is w
abbrev pub is_key : List ℕ → Node → Bool
is_key w n = is_the w (string_or 8 (forget n))

-- "of equal keys the last counts"
abbrev pub last_in : (w : List ℕ) (was : Outcome Node) → NodePairs → Outcome Node
last_in w was end_of_pairs = was
last_in w was (pair_then key v ps) = last_in w (cond (is_key w key) (gives v) was) ps

-- the value of the key w in what was read, or 9
abbrev pub node_for : (w : List ℕ) → Got Node → Outcome Node
node_for w g = then (pairs_or 9 g) (last_in w (refused 9))

-- whether a value is a dict whose keys are all strings
abbrev pub keyed : Outcome Items → Bool
keyed (gives es) = all_strings es
keyed (refused n) = false

abbrev pub keyed_at : Got Node → Bool
keyed_at g = keyed (then (value_or 8 g) (items_or 8))
