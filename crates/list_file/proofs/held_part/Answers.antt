-- `list_file::held_part` meets its contract: a shorter file is taken whole.
use Prim.Native.Nat.{◌<◌, ◌≤◌, min}
use native.Mathlib.Omega.{arith}
use mathlib.Core.Path.{◌≡◌, sym, ◌∙◌}
use mathlib.Core.Logic.{⊎_elim}
use lib.ListN.{length}
use lib.Seq.{take_all}
use Rattle.counts.proofs.Sides.{lt_or_ge}
use Rattle.list_file.proofs.held_part.Goals as goal

pub returns : goal.returns
returns c =
    let file = c.args.file.now in
    let n : c.min.result ≡ min (length file) 65536 = grind arith in
    ⊎_elim
    (λ (h : length file < 65536). take_all c.min.result file (omega arith) ∙ sym (take_all 65536 file (omega arith)))
    (λ (h : 65536 ≤ length file). let e : c.min.result ≡ 65536 = omega arith in rw e)
    (lt_or_ge (length file) 65536)
