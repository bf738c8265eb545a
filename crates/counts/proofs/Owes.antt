-- What goes to lent room, all of it or nothing (specs/Owes.antt): the two cases of a room; no second outcome; and the room after a refusal, and beyond what was put.
use Prim.Native.Nat.{ℕ, ◌<◌, ◌≤◌}
use mathlib.Core.Path.{◌≡◌, refl, sym, ap, ◌∙◌, subst}
use mathlib.Core.List.{List}
use lib.ListN.{length, drop}
use lib.Seq.{drop-append_seam}
use borrow.Author.Tests.{lt-ltb, le-ltb}
use Rattle.counts.specs.Outcome.{Outcome, gives, refused, each, afterwards}
use Rattle.counts.specs.OneOutcome.{OneOutcome}
use Rattle.counts.specs.Lists.{at_front}
use Rattle.counts.specs.Owes.{roomed, Owes}
use Rattle.counts.proofs.OneOutcome.{by_equation, beside}
use Rattle.counts.proofs.Apart.{refused_gives}

pub owes_refused : (n : ℕ) (room : List ℕ) → Owes (refused n) room (refused n) room
owes_refused n room = record { answered = refl; room_after = refl }

pub owes_same : (put put' : Outcome (List ℕ)) (room : List ℕ) (answer : Outcome ℕ) (room' : List ℕ) → put ≡ put' → Owes put room answer room' → Owes put' room answer room'
owes_same put put' room answer room' e h = subst (λ (o : Outcome (List ℕ)). Owes o room answer room') e h

module _ (n : ℕ) (room content : List ℕ) where
  pub roomed_whole : length content ≤ length room → roomed n room content ≡ gives content
  unfolding roomed
  roomed_whole h = rw (roomed, le-ltb (length room) (length content) h)

  pub roomed_short : length room < length content → roomed n room content ≡ refused n
  unfolding roomed
  roomed_short h = rw (roomed, lt-ltb (length room) (length content) h)

  pub owes_whole : (k : ℕ) → length content ≤ length room → k ≡ length content → Owes (roomed n room content) room (gives k) (at_front content room)
  owes_whole k h l = owes_same _ _ room _ _ (sym (roomed_whole h)) (record { answered = ap gives l; room_after = refl })

  pub owes_short : length room < length content → Owes (roomed n room content) room (refused n) room
  owes_short h = owes_same _ _ room _ _ (sym (roomed_short h)) (owes_refused n room)

-- ---- one outcome: the answer and the room's final content
pub owes_one : {A : Type 0} (answer : A → Outcome ℕ) → ((o : Outcome ℕ) → OneOutcome (λ r. answer r ≡ o)) → (put : Outcome (List ℕ)) (room : List ℕ)
    → OneOutcome {A = A × List ℕ} (λ r. Owes put room (answer r.0) r.1)
owes_one answer one put room x y p q =
    beside (one (each length put)) (by_equation (afterwards at_front put room)) x y (p.answered, p.room_after) (q.answered, q.room_after)

-- ---- the memory afterwards
module _ {A B M : Type 0} (store : A → M → M) (f : A → B) (before : M) where
  -- unchanged, if the outcome is a refusal
  pub afterwards_refused : (o : Outcome A) (k : ℕ) → each f o ≡ refused k → afterwards store o before ≡ before
  afterwards_refused (gives a) k e = refused_gives (sym e)
  afterwards_refused (refused n) k e = refl

pub owes_unchanged : (put : Outcome (List ℕ)) (room : List ℕ) (answer : Outcome ℕ) (room' : List ℕ) (k : ℕ) → Owes put room answer room' → answer ≡ refused k → room' ≡ room
owes_unchanged put room answer room' k h e = h.room_after ∙ afterwards_refused at_front length room put k (sym h.answered ∙ e)

-- after what was put at the front
pub front_rest : (n : ℕ) (new old : List ℕ) → n ≡ length new → drop n (at_front new old) ≡ drop n old
front_rest n new old e = rw e (drop-append_seam new (drop (length new) old))

pub owes_rest : (put : Outcome (List ℕ)) (room : List ℕ) (answer : Outcome ℕ) (room' : List ℕ) (n : ℕ) → Owes put room answer room' → answer ≡ gives n → drop n room' ≡ drop n room
owes_rest put room answer room' n h e = go put (sym h.answered ∙ e) h.room_after
  where
    go : (o : Outcome (List ℕ)) → each length o ≡ gives n → room' ≡ afterwards at_front o room → drop n room' ≡ drop n room
    go (gives content) f g =
        let len : n ≡ length content = cc in
        ap (drop n) g ∙ front_rest n content room len
    go (refused k) f g = refused_gives f
