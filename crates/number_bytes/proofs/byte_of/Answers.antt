-- `number_bytes::byte_of` meets its contract: the library's eight bytes are the number's, and there are no others (`eight_bytes`).
use Prim.Native.Nat.{ℕ}
use mathlib.Core.Path.{ap, ◌∙◌}
use mathlib.Core.List.{List}
use native.Mathlib.Omega.{arith}
use lib.ListN.{get_or}
use Rattle.std.specs.Prelude.{Option}
use Rattle.std.specs.Option.{unwrap_or}
use Rattle.number_bytes.proofs.Runs.{eight_bytes}
use Rattle.number_bytes.proofs.byte_of.Goals as goal

pub returns : goal.returns
returns c =
    c.unwrap_or.ensures
    ∙ ap (λ (o : Option ℕ). unwrap_or o 0) c.copied.ensures
    ∙ c.get.ensures.lookup.4 (omega arith) 0
    ∙ ap (λ (l : List ℕ). get_or l c.args.k 0) c.to_le_bytes.ensures
    ∙ eight_bytes c.args.k c.args.n c.ranges.n.fits
