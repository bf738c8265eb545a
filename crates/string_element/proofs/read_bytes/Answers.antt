-- `string_element::read_bytes` meets its contract: 27, and then by the letter of the type.
use borrow.Enum.Refused.{opened}
use Prim.Native.Nat.{ℕ}
use mathlib.Core.Path.{◌≡◌, refl, sym, ap, ◌∙◌}
use mathlib.Core.Bool.{true}
use mathlib.Core.List.{[], ◌∷◌}
use native.Mathlib.Omega.{arith}
use lib.ListN.{take}
use lib.Seq.{length-take-le}
use borrow.Author.Tests.{not-true, not-false}
use Rattle.counts.proofs.Owes.{owes_refused, owes_same}
use Rattle.type_letters.specs.Letters.{is_bytes, is_raw}
use Rattle.type_letters.proofs.Tags.{no_letter}
use Rattle.type_str.specs.Text.{is_type}
use Rattle.string_value.proofs.Trims.{trim_take, trim_length}
use Rattle.string_value.proofs.Ways.{read_bytes_none, read_bytes_by, in_bytes, in_raw, in_none}
use Rattle.string_element.proofs.read_bytes.Goals as goal
use Rattle.string_element.proofs.read_bytes.Goals.{Else-not-is_type}

pub returns-then-not-is_type : goal.returns-then-not-is_type
returns-then-not-is_type c = owes_same _ _ _ _ _ (read_bytes_none _ c.args.run.now _ (sym c.is_type.ensures ∙ not-true _ c.if-not-is_type.true-raw)) (owes_refused 27 _)

-- past 27
typed : (c : goal.Else-not-is_type) → is_type c.args.t ≡ true
typed c = sym c.is_type.ensures ∙ not-false _ c.if-not-is_type.false-raw

pub slice_bounds-copy-end : goal.slice_bounds-copy-end
slice_bounds-copy-end c = sym (length-take-le _ _ (omega (arith, c.kept.ensures, trim_length c.args.run.now)))

pub returns-in-ByteStr : goal.returns-in-ByteStr
returns-in-ByteStr c =
    let a = c.args in
    let left = ap (λ (n : ℕ). take n a.run.now) c.kept.ensures ∙ trim_take a.run.now in
    owes_same _ _ _ _ _
    (read_bytes_by a.t a.run.now _ (typed (goal.at.returns-in-ByteStr c).Else-not-is_type) _ (in_bytes _ _ c.in-ByteStr.is))
    (rw left at c.copy.ensures)

pub returns-in-RawData : goal.returns-in-RawData
returns-in-RawData c =
    let a = c.args in
    owes_same _ _ _ _ _ (read_bytes_by a.t a.run.now _ (typed (goal.at.returns-in-RawData c).Else-not-is_type) _ (in_raw _ _ c.in-RawData.is))
    c.copy-in-RawData.ensures

pub returns-in_default : goal.returns-in_default
returns-in_default c =
    let a = c.args in
    let no_bytes = no_letter is_bytes a.t.letter (0 ∷ 1 ∷ 2 ∷ 3 ∷ 4 ∷ 5 ∷ 6 ∷ 8 ∷ 9 ∷ []) (opened c.in_default.in_default-own.keys3) refl in
    let no-raw = no_letter is_raw a.t.letter (0 ∷ 1 ∷ 2 ∷ 3 ∷ 4 ∷ 5 ∷ 6 ∷ 8 ∷ 9 ∷ []) (opened c.in_default.in_default-own.keys3) refl in
    owes_same _ _ _ _ _ (read_bytes_by a.t a.run.now _ (typed (goal.at.returns-in_default c).Else-not-is_type) _ (in_none _ _ no_bytes no-raw)) (owes_refused 26 _)
