-- No second outcome satisfies a statement of this crate's public functions: each states `Emits`, for which `emits_one` of emit serves.
use Prim.Native.Nat.{ℕ, ◌^◌, ◌<◌}
use mathlib.Core.List.{List, ◌++◌}
use Rattle.counts.specs.OneOutcome.{OneOutcome}
use Rattle.decimal.specs.Decimal.{printed}
use Rattle.emit.specs.Emits.{Emits}
use Rattle.emit.proofs.Outcomes.{emits_one}
use Rattle.literal_grammar.specs.Print.{quote, print}
use Rattle.dtype.specs.declared.Entry.{Entry}
use Rattle.dtype.specs.declared.Order.{Order}
use Rattle.table_entry.specs.EntryType.{type_of}
use Rattle.write_pieces.specs.Pieces.{numbers_between, type_piece, levels_at, open_text, close_text, rest_text}

pub put_quoted_one : (name old : List ℕ) (at : ℕ) → OneOutcome {A = List ℕ × ℕ} (λ r. Emits (print (quote name)) old at r.0 r.1 × (r.1 < 2 ^ 64))
put_quoted_one name = emits_one (print (quote name))

pub put_between_one : (before : List ℕ) (n : ℕ) (after old : List ℕ) (at : ℕ)
    → OneOutcome {A = List ℕ × ℕ} (λ r. Emits (λ x. before ++ printed n (after ++ x)) old at r.0 r.1 × (r.1 < 2 ^ 64))
put_between_one before n after = emits_one (λ x. before ++ printed n (after ++ x))

pub put_numbers_one : (before after ns old : List ℕ) (at : ℕ)
    → OneOutcome {A = List ℕ × ℕ} (λ r. Emits (numbers_between before after ns) old at r.0 r.1 × (r.1 < 2 ^ 64))
put_numbers_one before after ns = emits_one (numbers_between before after ns)

pub put_type_one : (entry : Entry) (old : List ℕ) (at : ℕ) → OneOutcome {A = List ℕ × ℕ} (λ r. Emits (type_piece (type_of entry)) old at r.0 r.1 × (r.1 < 2 ^ 64))
put_type_one entry = emits_one (type_piece (type_of entry))

pub open_field_one : (name old : List ℕ) (at : ℕ)
    → OneOutcome {A = List ℕ × ℕ} (λ r. Emits (open_text name) old at r.0 r.1 × (r.1 < 2 ^ 64))
open_field_one name = emits_one (open_text name)

pub close_field_one : (t : List ℕ) (e : ℕ) (old : List ℕ) (at : ℕ)
    → OneOutcome {A = List ℕ × ℕ} (λ r. Emits (close_text (levels_at t e)) old at r.0 r.1 × (r.1 < 2 ^ 64))
close_field_one t e = emits_one (close_text (levels_at t e))

pub put_rest_one : (o : Order) (shape old : List ℕ) (at : ℕ) → OneOutcome {A = List ℕ × ℕ} (λ r. Emits (rest_text o shape) old at r.0 r.1 × (r.1 < 2 ^ 64))
put_rest_one o shape = emits_one (rest_text o shape)
