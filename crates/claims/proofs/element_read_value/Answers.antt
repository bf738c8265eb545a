-- The contract, and that the bytes are u8.
use Rattle.value.proofs.Runs.{all_bytes}
use Rattle.claims.proofs.element_read_value.Goals as goal

pub returns : goal.returns
returns c = record { bytes = all_bytes c.args.file.now c.shared_slice_known-1.given; answered = c.read_value.ensures }
