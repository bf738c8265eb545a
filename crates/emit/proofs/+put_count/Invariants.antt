use Rattle.emit.proofs.+put_count.Given as goal

-- The measure is n.
abbrev pub decreases-put_count : goal.decreases-put_count
decreases-put_count l = l.n
