-- The contract, and that the bytes are u8.
use Rattle.value.proofs.Runs.{all_bytes}
use Rattle.claims.proofs.value_read.Goals as goal

pub returns : goal.returns
returns c = record { bytes = all_bytes c.args.run.now c.shared_slice_known-1.given; answered = c.read.ensures }
