-- The text of a record's header gives one value, the layout's own. So it opens at most 32 brackets at once exactly if 7 does not apply.
use Prim.Native.Nat.{ℕ, ◌≤◌}
use mathlib.Core.Path.{◌≡◌, sym, ap, subst}
use mathlib.Core.Bool.{false, not}
use mathlib.Core.List.{[]}
use borrow.Author.Tests.{not-false}
use Rattle.literal_grammar.specs.Value.{Value, most_open, Within}
use Rattle.literal_grammar.specs.Grammar.{Gives}
use Rattle.literal_grammar.specs.Print.{value_of}
use Rattle.literal_grammar.proofs.Printed.{print_gives}
use Rattle.literal_grammar.proofs.Whole.{one_value}
use Rattle.dtype.specs.Record.{Record}
use Rattle.record.specs.Layout.{header_layout}
use Rattle.record.specs.File.{bare_text, text_length_of}
use Rattle.record.specs.Prefix.{most_text}
use Rattle.record.specs.Within.{within}
use Rattle.record.specs.Writing.{too_deep}
use Rattle.record.proofs.Printed.{text_length}
use Rattle.record.proofs.Nested.{within_true, true_within}
use Rattle.claims.specs.Exact.{Printable}

module _ (r : Record) where
  abbrev own : Value
  own = value_of (header_layout r)

  text_gives : Gives (bare_text r) own
  text_gives = print_gives (header_layout r) [] tt

  pub printable_shallow : Printable r → too_deep r ≡ false
  printable_shallow p =
      let same = one_value (bare_text r) p.value own p.shallow.0 text_gives in
      ap not (within_true own most_open (subst (λ (v : Value). Within v most_open) same p.shallow.1))

  pub printable_short : Printable r → text_length_of r ≤ most_text
  printable_short p = subst (λ (n : ℕ). n ≤ most_text) (text_length r) p.short

  pub shallow_printable : too_deep r ≡ false → text_length_of r ≤ most_text → Printable r
  shallow_printable e short =
      record {
        value = own;
        shallow = (text_gives, true_within own most_open (not-false (within own most_open) e));
        short = subst (λ (n : ℕ). n ≤ most_text) (sym (text_length r)) short;
      }
