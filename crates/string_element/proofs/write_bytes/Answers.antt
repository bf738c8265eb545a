-- `string_element::write_bytes` meets its contract: 27, and then by the letter of the type.
use borrow.Enum.Refused.{opened}
use mathlib.Core.Path.{◌≡◌, refl, sym, ◌∙◌}
use mathlib.Core.Bool.{true}
use mathlib.Core.List.{[], ◌∷◌}
use native.Mathlib.Omega.{arith}
use borrow.Author.Tests.{not-true, not-false, leb-true, leb-false, eqb-true, eqb-false}
use Rattle.counts.specs.Outcome.{gives, refused}
use Rattle.string_value.specs.Runs.{zero_filled, bytes_out}
use Rattle.counts.proofs.Owes.{owes_refused, owes_same}
use Rattle.type_letters.specs.Letters.{is_bytes, is_raw}
use Rattle.type_letters.proofs.Tags.{no_letter}
use Rattle.type_str.specs.Text.{is_type}
use Rattle.string_value.proofs.Ways.{write_bytes_none, write_bytes_by, bytes_none, bytes_long, bytes_fit, raw_other, raw_fit}
use Rattle.string_element.proofs.write_bytes.Goals as goal
use Rattle.string_element.proofs.write_bytes.Goals.{Else-not-is_type, in-ByteStr, in-RawData}

pub returns-then-not-is_type : goal.returns-then-not-is_type
returns-then-not-is_type c = owes_same _ _ _ _ _ (write_bytes_none _ c.args.value.now _ (sym c.is_type.ensures ∙ not-true _ c.if-not-is_type.true-raw)) (owes_refused 27 _)

-- past 27
typed : (c : goal.Else-not-is_type) → is_type c.args.t ≡ true
typed c = sym c.is_type.ensures ∙ not-false _ c.if-not-is_type.false-raw

pub returns-in_default : goal.returns-in_default
returns-in_default c =
    let a = c.args in
    let no_bytes = no_letter is_bytes a.t.letter (0 ∷ 1 ∷ 2 ∷ 3 ∷ 4 ∷ 5 ∷ 6 ∷ 8 ∷ 9 ∷ []) (opened c.in_default.in_default-own.keys3) refl in
    let no-raw = no_letter is_raw a.t.letter (0 ∷ 1 ∷ 2 ∷ 3 ∷ 4 ∷ 5 ∷ 6 ∷ 8 ∷ 9 ∷ []) (opened c.in_default.in_default-own.keys3) refl in
    owes_same _ _ _ _ _ (write_bytes_by a.t a.value.now _ (typed (goal.at.returns-in_default c).Else-not-is_type) _ (bytes_none _ _ no_bytes no-raw)) (owes_refused 26 _)

pub returns-then-not-fits : goal.returns-then-not-fits
returns-then-not-fits c =
    let a = c.args in
    let other : bytes_out a.t a.value.now ≡ refused 30 =
    elim c.match-t.branch [
      | in-ByteStr w ↦ bytes_long a.t a.value.now w.in-ByteStr.is (leb-false _ _ (sym w.fits-is ∙ c.if-not-fits.true))
      | in-RawData w ↦ raw_other a.t a.value.now w.in-RawData.is (λ e. eqb-false _ _ (sym w.fits-is ∙ c.if-not-fits.true) (sym e))
    ] in
    owes_same _ _ _ _ _ (write_bytes_by a.t a.value.now _ (typed (goal.at.returns-then-not-fits c).Else-not-is_type) _ other) (owes_refused 30 _)

pub returns : goal.returns
returns c =
    let a = c.args in
    let fit : bytes_out a.t a.value.now ≡ gives (zero_filled a.t.size a.value.now) =
    elim c.match-t.branch [
      | in-ByteStr w ↦ bytes_fit a.t a.value.now w.in-ByteStr.is (leb-true _ _ (sym w.fits-is ∙ c.if-not-fits.false))
      | in-RawData w ↦ raw_fit a.t a.value.now w.in-RawData.is (sym (eqb-true _ _ (sym w.fits-is ∙ c.if-not-fits.false)))
    ] in
    owes_same _ _ _ _ _ (write_bytes_by a.t a.value.now _ (typed (goal.at.returns c).Else-not-is_type) _ fit) c.place_bytes.ensures

pub place_bytes-requires : goal.place_bytes-requires
place_bytes-requires c =
    elim c.match-t.branch [
      | in-ByteStr w ↦ leb-true _ _ (sym w.fits-is ∙ c.if-not-fits.false)
      | in-RawData w ↦ omega (arith, eqb-true _ _ (sym w.fits-is ∙ c.if-not-fits.false))
    ]
