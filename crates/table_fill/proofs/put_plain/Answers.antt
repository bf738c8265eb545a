-- The entry is made, and then written; it holds the size.
use mathlib.Core.Path.{ap, ◌∙◌}
use Rattle.counts.specs.Counts.{as_bytes}
use Rattle.dtype.specs.declared.Entry.{Entry}
use Rattle.table_fill.specs.Written.{put}
use Rattle.table_fill.proofs.put_plain.Goals as goal

pub returns : goal.returns
returns c = record { value = ap (λ (e : Entry). as_bytes e.bytes) c.plain_entry-e.ensures; table_after = (c.put_entry.ensures ∙ ap (put c.args.table.now c.args.at) c.plain_entry-e.ensures) }
