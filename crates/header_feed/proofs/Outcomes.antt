-- No second outcome satisfies a statement of this crate's public functions: what is said tells the answer, and all else is an equation.
use Prim.Native.Nat.{ℕ}
use mathlib.Core.Path.{◌≡◌, refl, sym, ap, ◌∙◌}
use mathlib.Core.List.{List}
use Rattle.counts.specs.Outcome.{gives, refused}
use Rattle.counts.specs.OneOutcome.{OneOutcome}
use Rattle.counts.proofs.OneOutcome.{by_equation}
use Rattle.refusal.proofs.Names.{refusal_of, refusal_back}
use Rattle.record.specs.Rooms.{Lent}
use Rattle.header_prefix.specs.declared.Version.{Version}
use Rattle.header_prefix.proofs.Outcomes.{version_back, version_back_lem}
use Rattle.judge.specs.Judged.{reading}
use Rattle.header_feed.specs.declared.Fed.{Fed}
use Rattle.header_feed.specs.declared.Feeder.{Feeder}
use Rattle.header_feed.specs.declared.Feeding.{Feeding}
use Rattle.header_feed.specs.Feeds.{Progress, need_more, outcome, progress, TakesPart, Stays, FeedsAs, Feeds, fresh_feeder, Ends}

back : Progress → Fed
back need_more = Fed.More
back (outcome (gives t)) = Fed.Read (record { version = version_back t.version; info = t.info; start = record { 0 = t.data_start } })
back (outcome (refused n)) = Fed.Refused (refusal_of n)

said_back : (s : Fed) → back (progress s) ≡ s
unfolding back
said_back Fed.More = refl
said_back (Fed.Read h) = ap (λ (v : Version). Fed.Read (record { version = v; info = h.info; start = h.start })) (version_back_lem h.version)
said_back (Fed.Refused r) = ap Fed.Refused (refusal_back r)

-- what is said tells the answer
pub said_apart : (x y : Fed) → progress x ≡ progress y → x ≡ y
said_apart x y e = sym (said_back x) ∙ ap back e ∙ said_back y

pub start_one : OneOutcome {A = Feeder} (λ r. r ≡ fresh_feeder)
start_one = by_equation fresh_feeder

-- a feeder is its three parts
pub feeder_of : (x y : Feeder) → x.head ≡ y.head → x.taken ≡ y.taken → x.said ≡ y.said → x ≡ y
feeder_of x y a b c = made x.head x.taken x.said y.head y.taken y.said a b c
  where
    made : (h : List ℕ) (n : ℕ) (s : Fed) (h' : List ℕ) (n' : ℕ) (s' : Fed) → h ≡ h' → n ≡ n' → s ≡ s'
        → ◌≡◌ {A = Feeder} (record { head = h; taken = n; said = s }) (record { head = h'; taken = n'; said = s' })
    made h n s h' n' s' a b c = cc

pub end_one : (f : Feeder) → OneOutcome {A = Feeder} (λ r. Ends f r)
end_one f x y p q = feeder_of x y (p.same_head ∙ sym q.same_head) (p.same_taken ∙ sym q.same_taken) (said_apart x.said y.said (p.says ∙ sym q.says))

-- equal parts make equal outcomes
abbrev Out : Type 0
Out = (Feeding × List ℕ) × Lent

made : (h : List ℕ) (n : ℕ) (s : Fed) (u : ℕ) (t : List ℕ) (l : Lent) (h' : List ℕ) (n' : ℕ) (s' : Fed) (u' : ℕ) (t' : List ℕ) (l' : Lent) → h ≡ h' → n ≡ n' → s ≡ s' → u ≡ u' → t ≡ t' → l ≡ l'
    → ◌≡◌ {A = Out} ((record { feeder = record { head = h; taken = n; said = s }; used = u }, t), l) ((record { feeder = record { head = h'; taken = n'; said = s' }; used = u' }, t'), l')
made h n s u t l h' n' s' u' t' l' a b c d e f = cc

pub feed_one : (f : Feeder) (part text : List ℕ) (l : Lent) → OneOutcome {A = Out} (λ o. Feeds f part text l o.0.0 o.0.1 o.1)
feed_one f part text l x y p q = go (progress f.said) p q
  where
    takes : TakesPart f.head f.taken part text l x.0.0 x.0.1 x.1 → TakesPart f.head f.taken part text l y.0.0 y.0.1 y.1 → x ≡ y
    takes a b =
        let u : x.0.0.used ≡ y.0.0.used = a.used_is ∙ sym b.used_is in
        let c = rw u at a.after in
        let d = b.after in
        made x.0.0.feeder.head x.0.0.feeder.taken x.0.0.feeder.said x.0.0.used x.0.1 x.1 y.0.0.feeder.head y.0.0.feeder.taken y.0.0.feeder.said y.0.0.used y.0.1 y.1
        (c.head_is ∙ sym d.head_is) (c.taken_is ∙ sym d.taken_is) (said_apart x.0.0.feeder.said y.0.0.feeder.said (c.says ∙ sym d.says)) u (c.text_after ∙ sym d.text_after) (c.rooms_after ∙ sym d.rooms_after)

    stays : Stays f text l x.0.0 x.0.1 x.1 → Stays f text l y.0.0 y.0.1 y.1 → x ≡ y
    stays a b =
        made x.0.0.feeder.head x.0.0.feeder.taken x.0.0.feeder.said x.0.0.used x.0.1 x.1 y.0.0.feeder.head y.0.0.feeder.taken y.0.0.feeder.said y.0.0.used y.0.1 y.1
        (ap (λ (z : Feeder). z.head) (a.same_feeder ∙ sym b.same_feeder)) (ap (λ (z : Feeder). z.taken) (a.same_feeder ∙ sym b.same_feeder)) (ap (λ (z : Feeder). z.said) (a.same_feeder ∙ sym b.same_feeder))
        (a.used_none ∙ sym b.used_none) (a.same_text ∙ sym b.same_text) (a.same_rooms ∙ sym b.same_rooms)

    go : (s : Progress) → FeedsAs reading s f part text l x.0.0 x.0.1 x.1 → FeedsAs reading s f part text l y.0.0 y.0.1 y.1 → x ≡ y
    go need_more a b = takes a b
    go (outcome o) a b = stays a b
