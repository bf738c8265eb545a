-- The contract, and that the bytes are u8.
use Rattle.value.proofs.Runs.{all_bytes}
use Rattle.claims.proofs.npy_element_value.Goals as goal

pub returns : goal.returns
returns c = record { bytes = all_bytes c.args.file.now c.shared_slice_known-1.given; answered = c.npy_element_value.ensures }
