-- From the judged text to the text read with lent rooms.
use Rattle.header.specs.declared.RecordInfo.{RecordInfo}
use Rattle.std.specs.Prelude.{Err, Ok, Result}
use Prim.Native.Nat.{ℕ}
use mathlib.Core.Path.{◌≡◌, refl, sym, ap, subst, ◌∙◌}
use mathlib.Core.List.{List}
use Rattle.counts.specs.Outcome.{Outcome, gives, refused, then, each, afterwards}
use Rattle.refusal.specs.declared.Refusal.{Refusal}
use Rattle.refusal.specs.Numbers.{number_of}
use Rattle.dtype.specs.Record.{Record}
use Rattle.record.specs.Rooms.{Lent, rooms_of, holding}
use Rattle.record.specs.Header as header
use Rattle.literal_bytes.specs.Text.{skip}
use Rattle.judge.specs.declared.FoundRecord.{FoundRecord}
use Rattle.judge.specs.Judged.{reading, PlanOf, JudgedIs}
use Rattle.header.specs.Reads.{info_of, Stores, ReadsText}

module _ (text : List ℕ) (j : Result FoundRecord Refusal) (h : JudgedIs text (skip text 0) j (header.record_in reading text)) where
  plan_of : (plan : FoundRecord) (o : Outcome Record) → JudgedIs text (skip text 0) (Ok plan) o → (r : Record) × PlanOf text (skip text 0) plan r × (o ≡ gives r)
  plan_of plan (gives r) k = (r, k, refl)
  plan_of plan (refused n) k = absurd k

  fits : (plan : FoundRecord) → j ≡ Ok plan → (r : Record) × PlanOf text (skip text 0) plan r × (header.record_in reading text ≡ gives r)
  fits plan e = plan_of plan (header.record_in reading text) (subst (λ (x : Result FoundRecord Refusal). JudgedIs text (skip text 0) x (header.record_in reading text)) e h)

  pub text_plan : (plan : FoundRecord) → j ≡ Ok plan → (r : Record) × PlanOf text (skip text 0) plan r
  text_plan plan e = let x = fits plan e in (x.0, x.1)

  pub text_stored : (plan : FoundRecord) (l : Lent) (x : Result RecordInfo Refusal) (l' : Lent) → j ≡ Ok plan → ((r : Record) → PlanOf text (skip text 0) plan r → Stores r l x l') → ReadsText text l x l'
  text_stored plan l x l' e k =
      let y = fits plan e in
      let a = k y.0 y.1 in
      let same : header.text_by reading text l ≡ header.fitted (rooms_of l) y.0 y.0 = ap (λ (o : Outcome Record). then o (λ r. header.fitted (rooms_of l) r r)) y.2 in
      record { answered = a.answered ∙ ap (each info_of) (sym same); after = a.after ∙ ap (λ (o : Outcome Record). afterwards holding o l) (sym same) }

  none_of : (f : Refusal) (o : Outcome Record) → JudgedIs text (skip text 0) (Err f) o → o ≡ refused (number_of f)
  none_of f (gives r) k = absurd k
  none_of f (refused n) k = ap refused (sym k)

  pub text_refused : (f : Refusal) (l : Lent) → j ≡ Err f → ReadsText text l (Err f) l
  text_refused f l e =
      let z = none_of f (header.record_in reading text) (subst (λ (x : Result FoundRecord Refusal). JudgedIs text (skip text 0) x (header.record_in reading text)) e h) in
      let same : header.text_by reading text l ≡ refused (number_of f) = ap (λ (o : Outcome Record). then o (λ r. header.fitted (rooms_of l) r r)) z in
      record { answered = sym (ap (each info_of) same); after = sym (ap (λ (o : Outcome Record). afterwards holding o l) same) }
