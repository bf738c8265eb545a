-- Which reading of texts as literals is meant does not matter, if it keeps the promise of crate literal_grammar: a call by the literal's own is one by any other.
use Prim.Native.Nat.{ℕ}
use mathlib.Core.Path.{◌≡◌, ap, ◌∙◌}
use mathlib.Core.List.{List, ◌++◌}
use mathlib.Core.Bool.{cond, false}
use lib.Dec.{ltb}
use lib.ListN.{length, take}
use Rattle.counts.specs.Outcome.{Outcome, each, afterwards, unless}
use Rattle.counts.proofs.Holds.{then_alike}
use Rattle.record.specs.Prefix.{prefix}
use Rattle.record.specs.Rooms.{Lent, rooms_of}
use Rattle.record.specs.Header.{Header, Reading, Keeps, after_prefix_by, holding_header}
use Rattle.record.proofs.OneHeader.{after_prefix_same}
use Rattle.judge.specs.Judged.{reading}
use Rattle.judge.proofs.Top.{reading_keeps}
use Rattle.header.specs.Reads.{header_info}
use Rattle.header_feed.specs.declared.Feeder.{Feeder}
use Rattle.header_feed.specs.declared.Feeding.{Feeding}
use Rattle.header_feed.specs.Due.{header_with, decided}
use Rattle.header_feed.specs.Feeds.{Progress, need_more, outcome, progress, so_far, After, TakesBy, FeedsAs, FeedsBy, Feeds}

module _ (other : Reading) (keeps : Keeps other) where
  with_same : (b : ℕ) (bytes : List ℕ) (l : Lent) → header_with reading b bytes l ≡ header_with other b bytes l
  unfolding header_with
  with_same b bytes l =
      then_alike (prefix bytes) (λ p. unless (ltb b p.text_length) 36 (after_prefix_by reading false bytes p (rooms_of l))) (λ p. unless (ltb b p.text_length) 36 (after_prefix_by other false bytes p (rooms_of l)))
      (λ p. ap (unless (ltb b p.text_length) 36) (after_prefix_same reading other reading_keeps keeps false bytes p (rooms_of l)))

  after_any : (bytes head text : List ℕ) (l : Lent) (f : Feeder) (text' : List ℕ) (l' : Lent) → After reading bytes head text l f text' l' → After other bytes head text l f text' l'
  after_any bytes head text l f text' l' a =
      let same = with_same (length text) bytes l in
      record {
        says = a.says ∙ ap (λ (o : Outcome Header). cond (decided (length text) bytes) (outcome (each header_info o)) need_more) same;
        head_is = a.head_is;
        taken_is = a.taken_is;
        text_after = a.text_after;
        rooms_after = a.rooms_after ∙ ap (λ (o : Outcome Header). cond (decided (length text) bytes) (afterwards holding_header o l) l) same;
      }

  pub takes_any : (head : List ℕ) (taken : ℕ) (part text : List ℕ) (l : Lent) (r : Feeding) (text' : List ℕ) (l' : Lent) → TakesBy reading head taken part text l r text' l' → TakesBy other head taken part text l r text' l'
  takes_any head taken part text l r text' l' t = record { used_is = t.used_is; after = after_any (so_far head taken text ++ take r.used part) head text l r.feeder text' l' t.after }

  pub feeds_any : (f : Feeder) (part text : List ℕ) (l : Lent) (r : Feeding) (text' : List ℕ) (l' : Lent) → Feeds f part text l r text' l' → FeedsBy other f part text l r text' l'
  feeds_any f part text l r text' l' h = go (progress f.said) h
    where
      go : (s : Progress) → FeedsAs reading s f part text l r text' l' → FeedsAs other s f part text l r text' l'
      go need_more k = takes_any f.head f.taken part text l r text' l' k
      go (outcome o) k = k
