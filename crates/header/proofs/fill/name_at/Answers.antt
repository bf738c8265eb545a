-- The part of the names from the byte on is written from its front.
use Prim.Native.Nat.{ℕ, ◌+◌, ◌-◌}
use native.Mathlib.Omega.{arith}
use mathlib.Core.List.{List}
use lib.Seq.{sets}
use borrow.Rule.Slice.PartMut.{put_mid}
use Rattle.table_fill.proofs.EntryStores.{part_stored}
use mathlib.Core.Path.{ap, ◌∙◌}
use lib.ListN.{length, get_or}
use Rattle.literal_escapes.specs.Strings.{spelled, scanned}
use Rattle.literal_bytes.proofs.Positions.{get_d_any}
use Rattle.header.proofs.fill.name_at.Goals as goal

pub returns : goal.returns
returns c =
    let a = c.args in
    let q = get_d_any a.text.now a.at 0 256 c.requires.at_in_bounds in record {
      value = c.decode.ensures.value ∙ ap (λ (b : ℕ). scanned (spelled b a.text.now (a.at + 1))) q;
      names_after = ap (λ (l : List ℕ). put_mid a.byte (length a.names.now - a.byte) a.names.now l) c.decode.ensures.out_after ∙ part_stored a.names.now a.byte (spelled (get_or a.text.now a.at 0) a.text.now (a.at + 1)).bytes (omega (arith, c.requires.at_in_bounds_2))
          ∙ ap (λ (b : ℕ). sets a.names.now a.byte (spelled b a.text.now (a.at + 1)).bytes) q;
    }
