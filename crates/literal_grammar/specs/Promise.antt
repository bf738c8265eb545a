-- What the outcome of reading a text means, by the grammar alone. Document 01, "The literal": "The text is exactly one value. Faults are found left
-- to right, at the first byte that no valid text could have after what precedes it, nesting aside." Refusal 6: "literal fault". Refusal 7: "a
-- bracket that may stand there would be the 33rd open"; here the (k + 1)-st. For every text exactly one outcome keeps the promise (proofs/Kept.antt).
use Rattle.std.specs.Prelude.{ℕ, suc, ◌≤◌, ◌≡◌, List, [], ◌∷◌, ◌++◌, true, length, take, drop}
use Rattle.counts.specs.Lists.{AllBytes}
use Rattle.literal_grammar.specs.Bytes.{is_open}
use Rattle.literal_grammar.specs.Value.{Value, Within}
use Rattle.literal_grammar.specs.Grammar.{Gives}

-- the text gives the value, and at most k brackets are open at once
abbrev pub GivesIn : ℕ → List ℕ → Value → Type 0
GivesIn k s v = Gives s v × Within v k

-- some bytes after u complete it to a text of the relation R
abbrev pub Completable : {A : Type 0} → (List ℕ → A → Type 0) → List ℕ → Type 0
Completable {A} R u = (t : List ℕ) × (v : A) × AllBytes t × R (u ++ t) v

-- after u the first byte of q is impossible, whatever follows it; where q is empty, the text cannot end after u
abbrev pub Barred : (List ℕ → Value → Type 0) → List ℕ → List ℕ → Type 0
Barred R u [] = (v : Value) → R u v → ⊥
Barred R u (b ∷ q) = (t : List ℕ) (v : Value) → R (u ++ b ∷ t) v → ⊥

-- refusal 6 after u, before q: u can be completed, even within k brackets, and no valid text continues as q does, nesting aside
pub record Faulty (k : ℕ) (u q : List ℕ) : Type 0 where
  pub before : Completable (GivesIn k) u
  pub there : Barred Gives u q

-- refusal 7 after u, before q: u can be completed, and q begins with a bracket that is possible there with k + 1 open at once, but not with k
pub record TooDeep (k : ℕ) (u q : List ℕ) : Type 0 where
  pub before : Completable (GivesIn k) u
  pub bracket : ℕ
  pub left : List ℕ
  pub begins : q ≡ bracket ∷ left
  pub opens : is_open bracket ≡ true
  pub may_stand : Completable (GivesIn (suc k)) (u ++ bracket ∷ [])
  pub there : Barred (GivesIn k) u q

-- an outcome: what was read and the place after it; or refusal 6 or 7 and its place
pub data Got (Place A : Type 0) : Type 0 where
  got : A → Place → Got Place A
  fault : Place → Got Place A
  deep : Place → Got Place A

-- the promise where a place is a position in the text
abbrev pub PromiseAt : ℕ → List ℕ → Got ℕ Value → Type 0
PromiseAt k s (got v p) = (p ≡ length s) × GivesIn k s v
PromiseAt k s (fault p) = (p ≤ length s) × Faulty k (take p s) (drop p s)
PromiseAt k s (deep p) = (p ≤ length s) × TooDeep k (take p s) (drop p s)
