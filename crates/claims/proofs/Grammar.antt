-- Some reading keeps the promise, the literal's own; and for each text one outcome keeps it (specs/Grammar.antt).
use Rattle.literal_grammar.specs.Value.{most_open}
use Rattle.literal_grammar.proofs.Kept.{one_outcome_at}
use Rattle.judge.specs.Judged.{reading}
use Rattle.judge.proofs.Top.{reading_keeps}
use Rattle.claims.specs.Grammar.{ByTheGrammar}

pub by_the_grammar : ByTheGrammar
by_the_grammar = record { some = (reading, reading_keeps); alike = λ one other k q text. one_outcome_at most_open text (one text) (other text) (k text) (q text) }
