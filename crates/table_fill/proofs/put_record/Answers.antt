-- The entry is made, and then written.
use Prim.Native.Nat.{ℕ}
use mathlib.Core.Path.{ap, ◌∙◌}
use Rattle.table_fill.specs.Written.{put, bare}
use Rattle.table_fill.proofs.put_record.Goals as goal

pub returns : goal.returns
returns c =
    let a = c.args in
    c.put_entry.ensures ∙ ap (put a.table.now a.at) c.bare_entry.ensures
    ∙ ap (λ (x : ℕ). put a.table.now a.at (bare 2 a.up a.count x a.size.0 a.name)) c.entries_between.ensures
