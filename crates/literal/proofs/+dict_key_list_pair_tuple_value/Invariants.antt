use Prim.Native.Nat.{◌+◌, ◌*◌, ◌-◌}
use lib.ListN.{length}
use Rattle.literal.specs.Brackets.{pair_by}
use Rattle.literal.specs.Literal.{value as value_of}
use Rattle.literal.proofs.Steps.{gap_left, Turn}
use Rattle.literal.proofs.+dict_key_list_pair_tuple_value.Given as goal

abbrev pub decreases-dict : goal.decreases-dict
decreases-dict l = 4 * (length l.text.now - l.from) + 3

abbrev pub decreases-key : goal.decreases-key
decreases-key l = 4 * (length l.text.now - l.at) + 1

abbrev pub decreases-list : goal.decreases-list
decreases-list l = 4 * (length l.text.now - l.from) + 3

abbrev pub decreases-pair : goal.decreases-pair
decreases-pair l = 4 * (length l.text.now - l.at) + 2

abbrev pub decreases-tuple : goal.decreases-tuple
decreases-tuple l = 4 * (length l.text.now - l.from) + 3

abbrev pub decreases-value : goal.decreases-value
decreases-value l = 4 * (length l.text.now - l.at)

-- a list ends as its items from the gap on do; the text from the gap on falls
abbrev pub invariant-dict-loop-g : goal.invariant-dict-loop-g
invariant-dict-loop-g l = Turn (pair_by (value_of l.room l.text) l.text) l.text 125 l.from l.g

abbrev pub decreases-dict-loop-g : goal.decreases-dict-loop-g
decreases-dict-loop-g l = gap_left (length l.text) l.g

abbrev pub invariant-list-loop-g : goal.invariant-list-loop-g
invariant-list-loop-g l = Turn (value_of l.room l.text) l.text l.close l.from l.g

abbrev pub decreases-list-loop-g : goal.decreases-list-loop-g
decreases-list-loop-g l = gap_left (length l.text) l.g
