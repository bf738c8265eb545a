-- Entries of plain types: an entry agrees as plain exactly where it has a type, the extent 1 and that type's bytes.
use Prim.Native.Nat.{ℕ}
use mathlib.Core.Path.{◌≡◌, ap, sym, ◌∙◌}
use lib.Dec.{eqb}
use Rattle.counts.specs.Outcome.{Outcome, gives}
use Rattle.type_str.specs.Text.{is_type}
use Rattle.type_str.specs.declared.TypeStr.{TypeStr}
use Rattle.dtype.specs.PlainBytes.{plain_bytes}
use Rattle.counts.specs.Number.{capped}
use Rattle.dtype.specs.declared.Entry.{Entry}
use Rattle.table_entry.specs.EntryType.{type_of}
use Rattle.check_table.specs.Decides.{refuses, Decides, TypedAgrees}
use Rattle.check_table.proofs.Tests.{by_eqb}
use Rattle.table_entry.proofs.Types.{given_made, type_of_back, type_of_written}

pub plain_decided : (e : Entry) (t : TypeStr) (y : ℕ) → gives t ≡ type_of e → e.extent ≡ 1 → y ≡ capped (plain_bytes t)
    → Decides (eqb e.bytes y) (TypedAgrees e)
plain_decided e t y h x s =
    let w = type_of_back e t (sym h) in
    by_eqb e.bytes y
    (λ z.
    record {
      agrees =
          record {
            type = t;
            order = w.order;
            letter = w.letter;
            number = w.number;
            units = w.units;
            extent = x;
            bytes = z ∙ s;
          };
      typed = sym (ap (λ (o : Outcome TypeStr). refuses o) h);
    })
    (λ a.
    let p = a.agrees in
    let v = type_of_written e p.type (record { order = p.order; letter = p.letter; number = p.number; units = p.units }) in
    let same : p.type ≡ t = given_made t p.type (is_type p.type) (sym v ∙ sym h) in
    p.bytes ∙ ap (λ (u : TypeStr). capped (plain_bytes u)) same ∙ sym s)
