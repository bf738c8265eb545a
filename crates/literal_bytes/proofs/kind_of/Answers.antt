-- Past the end no value begins.
use Rattle.literal_bytes.proofs.ByClass.{kind_past}
use Rattle.literal_bytes.proofs.kind_of.Goals as goal

pub returns-then-b-ge-PAST : goal.returns-then-b-ge-PAST
returns-then-b-ge-PAST c = kind_past c.args.b c.if-b-ge-PAST.true
