-- The invariant: what is left of the word, from `at` on, ends as the whole word does.
use mathlib.Core.Path.{◌≡◌}
use lib.ListN.{drop}
use Rattle.literal_tokens.specs.Tokens.{word_at}
use Rattle.literal_tokens.proofs.word.Given as goal

abbrev pub invariant-loop-b : goal.invariant-loop-b
invariant-loop-b l = word_at l.expected l.text l.from ≡ word_at (drop l.b-index l.expected) l.text l.at
