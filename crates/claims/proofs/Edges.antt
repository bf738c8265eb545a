-- The table of edges (specs/Edges.antt): its parts are proved where their definitions are. That the text of `[('a', '<i2'), ('b', '<U3', (2,))]` gives that record is computed
-- here: the grammar's own reading of the text, which keeps the promise, and the dtype of the value.
use Prim.Native.Nat.{ℕ, ◌≤◌}
use mathlib.Core.Path.{◌≡◌, refl, subst}
use mathlib.Core.Bool.{false}
use mathlib.Core.List.{List, [], ◌∷◌}
use native.Mathlib.Omega.{arith}
use lib.ListN.{length, replicate}
use Rattle.decimal.specs.Decimal.{is_digit, digits_of, decimal_from, last_digits, printed}
use Rattle.type_letters.specs.Letters.{order_of, letter_of}
use Rattle.type_units.specs.Units.{units_of}
use Rattle.type_str.specs.TypeString.{sized, syntax, validated, checked, type_string}
use Rattle.type_str.specs.Text.{type_text, is_type}
use Rattle.literal_grammar.specs.Bytes.{is_blank, is_quote, is_break, is_escape, unescape}
use Rattle.literal_grammar.specs.Value.{most_open}
use Rattle.literal_grammar.specs.Print.{escape_of}
use Rattle.literal_grammar.specs.Promise.{GivesIn, got}
use Rattle.literal_grammar.proofs.Reading.{skip, after_digits, natural, word, quoted, parted, up_to, paired, bracketed, kind_of, value, alone, literal}
use Rattle.literal_grammar.proofs.Kept.{Promise, kept}
use Rattle.type_read.proofs.Edges as types
use Rattle.dtype.specs.declared.Order.TheVariants.{C}
use Rattle.dtype.specs.Record.{entry_width, table}
use Rattle.dtype.specs.Limits.{over_shape, limited}
use Rattle.dtype.proofs.Edges as dtypes
use Rattle.counts.specs.Outcome.{gives}
use Rattle.record.specs.Rooms.{Lent}
use Rattle.record.specs.Header.{Header}
use Rattle.record.specs.Edges.{three_i4}
use Rattle.record.proofs.Examples.{table_holds}
use Rattle.record.proofs.Edges as paddings
use Rattle.record.specs.Padding.{spaces_after, version_for}
use Rattle.record.specs.File.{version, text_length_of}
use Rattle.check_record.specs.Valid.{Valid}
use Rattle.judge.specs.Judged.{reading}
use Rattle.judge.proofs.Top.{reading_keeps}
use Rattle.header.specs.Reads.{held_into, lent}
use Rattle.claims.specs.Exact.{InFile, Printable, Writable}
use Rattle.claims.specs.Edges.{Edges, a_and_b_text, a_and_b_value}
use Rattle.claims.proofs.Exact.{read_in_file}
use Rattle.claims.proofs.Printable.{shallow_printable}

a_and_b_literal : literal most_open a_and_b_text ≡ got a_and_b_value []
unfolding literal alone value kind_of bracketed paired up_to parted quoted word natural after_digits skip is_digit digits_of decimal_from is_blank is_quote is_break is_escape unescape
a_and_b_literal = refl

given : GivesIn most_open a_and_b_text a_and_b_value
given = (subst (Promise most_open a_and_b_text) a_and_b_literal (kept most_open a_and_b_text)).1

-- the headers of `<i4`, C, (3), by the table of crate record, with rooms that are just enough
abbrev just_room : Lent
just_room = lent (replicate entry_width 0) [] (0 ∷ [])

read_so : (file : List ℕ) (h : Header) → held_into false file just_room ≡ gives h → InFile file h
read_so file h e = (read_in_file false file just_room h e).0

-- that record is written
three_valid : Valid (table three_i4.dtype) [] (3 ∷ []) C three_i4
unfolding limited over_shape validated checked is_type
three_valid = record { table_is = refl; names_are = refl; shape_is = refl; order_is = refl; no_array = refl; readable = refl; limits = refl }

three_printable : Printable three_i4
unfolding printed last_digits escape_of type_text spaces_after version_for version text_length_of
three_printable = let long : text_length_of three_i4 ≡ 118 = refl in shallow_printable three_i4 refl (omega (arith, long))

three_writable : (room : List ℕ) → 128 ≤ length room → Writable (table three_i4.dtype) [] (3 ∷ []) C room three_i4
three_writable room enough =
    record { valid = three_valid; printable = three_printable; fits = omega (arith, (paddings.edges).three_long, enough) }

pub edges : Edges
unfolding is_digit digits_of decimal_from order_of letter_of units_of sized syntax validated checked type_string
edges =
    let holds = table_holds reading reading_keeps in
    record {
      type_strings = types.edges;
      records = dtypes.edges;
      a_and_b_given = given;
      a_and_b_read = refl;
      eighty_read = read_so _ _ holds.0;
      other_blanks_read = read_so _ _ holds.1.0;
      unpadded_read = read_so _ _ holds.1.1.0;
      hundred_twenty_eight_read = read_so _ _ holds.1.1.1.0;
      padding_edges = paddings.edges;
      three_writable = three_writable;
    }
