-- 27, and then by the letter of the type.
use borrow.Enum.Refused.{opened}
use Prim.Native.Nat.{ℕ}
use mathlib.Core.Path.{refl, sym, ap, ◌∙◌}
use mathlib.Core.List.{List, [], ◌∷◌}
use native.Mathlib.Omega.{arith}
use lib.ListN.{take}
use lib.Seq.{length-take-le}
use borrow.Author.Tests.{not-true, not-false}
use Rattle.type_letters.specs.Letters.{is_unicode, is_bytes, is_raw}
use Rattle.type_letters.proofs.Tags.{no_letter}
use Rattle.string_value.proofs.Trims.{trim_take, trim_length}
use Rattle.element_text.proofs.Lines.{bytes_known, line_none, line_text, line_bytes, line_raw, line_value, puts_same}
use Rattle.element_text.proofs.put_line.Goals as goal

pub returns-then-not-is_type : goal.returns-then-not-is_type
returns-then-not-is_type c = puts_same _ _ _ _ _ (sym (line_none _ c.args.run.now (sym c.is_type.ensures ∙ not-true _ c.if-not-is_type.true-raw))) (refl, refl)

pub slice_bounds-value-end : goal.slice_bounds-value-end
slice_bounds-value-end c = sym (length-take-le _ _ (omega (arith, c.kept.ensures, trim_length c.args.run.now)))

pub returns-in-UnicodeStr : goal.returns-in-UnicodeStr
returns-in-UnicodeStr c = puts_same _ _ _ _ _ (line_text _ c.args.run.now (sym c.is_type.ensures ∙ not-false _ c.if-not-is_type.false-raw) c.in-UnicodeStr.is) c.put_points_line.ensures

pub returns-in-ByteStr : goal.returns-in-ByteStr
returns-in-ByteStr c = let a = c.args in
    let left = ap (λ (n : ℕ). take n a.run.now) c.kept.ensures ∙ trim_take a.run.now in
    puts_same _ _ _ _ _ (line_bytes _ a.run.now (sym c.is_type.ensures ∙ not-false _ c.if-not-is_type.false-raw) c.in-ByteStr.is) (bytes_known _ _ _ _ _ left c.put_bytes_line.ensures)

pub returns-in-RawData : goal.returns-in-RawData
returns-in-RawData c = puts_same _ _ _ _ _ (line_raw _ c.args.run.now (sym c.is_type.ensures ∙ not-false _ c.if-not-is_type.false-raw) c.in-RawData.is) c.put_raw_line.ensures

pub returns-in_default : goal.returns-in_default
returns-in_default c = let a = c.args in
    let ks : List ℕ = 0 ∷ 1 ∷ 2 ∷ 3 ∷ 4 ∷ 5 ∷ 6 ∷ 9 ∷ [] in
    puts_same _ _ _ _ _ (line_value _ a.run.now (sym c.is_type.ensures ∙ not-false _ c.if-not-is_type.false-raw) (no_letter is_unicode a.t.letter ks (opened c.in_default.in_default-own.keys4) refl) (no_letter is_bytes a.t.letter ks (opened c.in_default.in_default-own.keys4) refl) (no_letter is_raw a.t.letter ks (opened c.in_default.in_default-own.keys4) refl)) c.put_value_line.ensures
