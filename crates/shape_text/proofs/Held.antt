-- The members of a list or tuple: the outline of all of them is that of those met, extended by those that are left. Then the value around them: `bracket`,
-- by the kind of its first byte.
use Rattle.refusal.specs.Answers.{answer}
use Rattle.refusal.specs.declared.Refusal.{Refusal}
use Rattle.std.specs.Prelude.{Err, Ok, Some, Result}
use Prim.Native.Nat.{ℕ, ◌+◌, ◌-◌, ◌<◌, ◌≤◌}
use native.Mathlib.Omega.{arith}
use mathlib.Core.Path.{◌≡◌, refl, sym, ap}
use mathlib.Core.List.{List, [], ◌∷◌}
use mathlib.Core.Bool.{false}
use lib.ListN.{length}
use Rattle.counts.specs.Outcome.{Outcome, gives, refused, then, each}
use Rattle.counts.proofs.Fits.{number_is}
use Rattle.record.specs.Parts.{members_or}
use Rattle.record.specs.Dimensions.{dimension}
use Rattle.literal_tokens.specs.Node.{Node, nodes}
use Rattle.literal_bytes.specs.Got.{Got, got, fault, deep, with}
use Rattle.literal.specs.Forget.{forget, forget_all}
use Rattle.literal_bytes.specs.Text.{byte_at, kind_of}
use Rattle.literal_bytes.specs.Gaps.{gap_at}
use Rattle.literal.specs.Literal.{value}
use Rattle.literal.specs.Rows.{RowOf}
use Rattle.literal_bytes.specs.declared.ValueKind.{ValueKind}
use Rattle.literal_bytes.specs.declared.ValueKind.TheVariants.{Square, Round, Curly, Quote, Minus, Digit, TrueWord, FalseWord, NoneWord, Other}
use Rattle.literal_bytes.proofs.Positions.{kind_in}
use Rattle.literal.proofs.View.{view}
use Rattle.shape_verdict.specs.declared.Outline.{Outline}
use Rattle.shape_verdict.specs.Outline.{outline_of, extended_to, extended_by, extends}
use Rattle.shape_verdict.specs.Answer.{rank_of}
use Rattle.shape_verdict.proofs.Outlines.{outline_whole}
use Rattle.shape_text.specs.Members.{closing_of}
use Rattle.shape_text.specs.Walk.{dimensions_of, goes_on_to}

-- ---- members, one after the other
none_outline : outline_of [] ≡ record { rank = 0; empty = false; before = Some (record { 0 = 1 }); after = Some (record { 0 = 1 }) }
unfolding outline_of
none_outline = rw (number_is 1 (omega arith))

pub nothing_is : ◌≡◌ {A = Result Outline Refusal} (Ok (record { rank = 0; empty = false; before = Some (record { 0 = 1 }); after = Some (record { 0 = 1 }) })) (Ok (outline_of []))
nothing_is = ap Ok (sym none_outline)

-- no members are met yet
pub nothing_rank : (v : Result Outline Refusal) → v ≡ Ok (outline_of []) → rank_of v ≡ 0
unfolding outline_of
nothing_rank v h = ap rank_of h

pub goes_whole : (d : Outcome (List ℕ)) → each outline_of d ≡ each (extends (outline_of [])) d
goes_whole (gives ms) = ap gives (outline_whole ms)
goes_whole (refused n) = refl

joins : (a : Outcome Outline) (d : Outcome ℕ) (ds : Outcome (List ℕ))
    → then a (λ o. each (extends o) (then d (λ n. each (λ ns. n ∷ ns) ds))) ≡ then (then a (λ o. each (extended_by o) d)) (λ o. each (extends o) ds)
joins (gives o) (gives n) (gives ns) = refl
joins (gives o) (gives n) (refused m) = refl
joins (gives o) (refused m) ds = refl
joins (refused m) d ds = refl

-- one member is met, and those after it are left
pub goes_one : (v : Outcome Outline) (n : Node) (g : Got (List Node)) → goes_on_to v (with (λ e. ◌∷◌ n) g) ≡ goes_on_to (then v (λ o. each (extended_by o) (dimension (forget n)))) g
unfolding with forget forget_all
goes_one v n (got ns e) = joins v (dimension (forget n)) (dimensions_of ns)
goes_one v n (fault p) = refl
goes_one v n (deep p) = refl

-- none is left
pub goes_none : (v : Result Outline Refusal) (e : ℕ) → answer v ≡ goes_on_to (answer v) (got [] e)
unfolding forget_all
goes_none (Ok o) e = refl
goes_none (Err why) e = refl

-- a verdict counts one more at most
pub rank_more : (v v' : Result Outline Refusal) (m : Result ℕ Refusal) → answer v' ≡ then (answer v) (λ o. each (extended_by o) (answer m)) → rank_of v' ≤ rank_of v + 1
unfolding extended_to
rank_more v (Err why) m h = omega arith
rank_more (Err why) (Ok o) m h = absurd (let z : ◌≡◌ {A = ℕ} 0 1 = cc in omega arith)
rank_more (Ok u) (Ok o) (Ok n) h = let z : o ≡ extended_by u n = cc in omega (arith, ap (λ (x : Outline). x.rank) z)
rank_more (Ok u) (Ok o) (Err why) h = absurd (let z : ◌≡◌ {A = ℕ} 0 1 = cc in omega arith)

-- ---- a list or a tuple, and what it holds
pub record Bracket (k : ℕ) (s : List ℕ) (at : ℕ) (n : Node) (e close : ℕ) : Type 0 where
  pub room : 0 < k
  pub inside : at < length s
  pub held : List Node
  pub holds : (j : ℕ) → members_or j (forget n) ≡ gives (forget_all (nodes held))
  pub row : RowOf (value (k - 1) s) s close held (gap_at s (at + 1) close) e

module _ (k : ℕ) (s : List ℕ) (at e : ℕ) (n : Node) (h : value k s at ≡ got n e) where
  pub bracket : (c : ValueKind) → kind_of (byte_at s at) ≡ c → (closing_of c ≡ 0 → ⊥) → Bracket k s at n e (closing_of c)
  unfolding forget forget_all
  bracket Square hk z = let v = view k s at h hk in record { room = v.0; inside = kind_in s at hk refl; held = v.1; holds = λ j. ap (λ (x : Node). members_or j (forget x)) v.2; row = v.3 }
  bracket Round hk z = let v = view k s at h hk in record { room = v.0; inside = kind_in s at hk refl; held = v.1; holds = λ j. ap (λ (x : Node). members_or j (forget x)) v.2; row = v.3 }
  bracket Curly hk z = absurd (z refl)
  bracket Quote hk z = absurd (z refl)
  bracket Minus hk z = absurd (z refl)
  bracket Digit hk z = absurd (z refl)
  bracket TrueWord hk z = absurd (z refl)
  bracket FalseWord hk z = absurd (z refl)
  bracket NoneWord hk z = absurd (z refl)
  bracket Other hk z = absurd (z refl)

  held_by_lem : (j : ℕ) {m : Node} → n ≡ m → members_or j (forget n) ≡ members_or j (forget m)
  held_by_lem j z = ap (λ (x : Node). members_or j (forget x)) z

  pub no_bracket : (j : ℕ) (c : ValueKind) → kind_of (byte_at s at) ≡ c → closing_of c ≡ 0 → members_or j (forget n) ≡ refused j
  unfolding forget
  no_bracket j Square hk z = absurd (omega arith)
  no_bracket j Round hk z = absurd (omega arith)
  no_bracket j Curly hk z = let v = view k s at h hk in held_by_lem j v.2
  no_bracket j Quote hk z = let v = view k s at h hk in held_by_lem j v.0
  no_bracket j Minus hk z = let v = view k s at h hk in held_by_lem j v.0
  no_bracket j Digit hk z = let v = view k s at h hk in held_by_lem j v.0
  no_bracket j TrueWord hk z = let v = view k s at h hk in held_by_lem j v
  no_bracket j FalseWord hk z = let v = view k s at h hk in held_by_lem j v
  no_bracket j NoneWord hk z = let v = view k s at h hk in held_by_lem j v
  no_bracket j Other hk z = absurd (view k s at h hk)
