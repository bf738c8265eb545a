-- Storing dimensions. Document 01, "The refusal numbers": "On success, room beyond what was needed is unchanged." Where there is room for them, `sets`
-- from the front is the numbers and then what was after them (proofs/Stored.antt).
use Rattle.std.specs.Prelude.{ℕ, zero, suc, ◌+◌, ◌-◌, ◌≡◌, List, [], ◌∷◌, ◌||◌, cond, length, eqb}
use Rattle.std.proofs.lemmas.List.Edits.{sets}
use Rattle.counts.specs.Outcome.{gives, refused}
use Rattle.record.specs.Dimensions.{dimension}
use Rattle.literal_tokens.specs.Node.{Node}
use Rattle.literal_bytes.specs.Got.{Got, got, fault, deep}
use Rattle.literal_bytes.specs.Text.{byte_at, kind_of}
use Rattle.literal.specs.Forget.{forget}
use Rattle.literal.specs.Literal.{value}
use Rattle.literal_bytes.specs.Gaps.{gap_at, then_at}
use Rattle.literal_bytes.specs.declared.Gap.{Gap}
use Rattle.literal_bytes.specs.declared.Gap.TheVariants.{Shut, Item, Stray}
use Rattle.shape_text.specs.Members.{closing_of}
use Rattle.shape_text.specs.declared.DimsStored.{DimsStored}

-- the dimensions from a gap on, fewer than m: as far as each item is one
unfoldable pub front_from : (ℕ → Got Node) → List ℕ → ℕ → ℕ → Gap → List ℕ
front_from rd s close zero g = []
front_from rd s close (suc m) (Shut e) = []
front_from rd s close (suc m) (Stray p) = []
front_from rd s close (suc m) (Item p) = elim (rd p) [
  | got v q ↦ elim (dimension (forget v)) [ gives n ↦ n ∷ front_from rd s close m (then_at s q close) | refused j ↦ [] ]
  | fault a ↦ []
  | deep a ↦ []
]

-- the gap after the last of them
unfoldable pub stop_from : (ℕ → Got Node) → List ℕ → ℕ → ℕ → Gap → Gap
stop_from rd s close zero g = g
stop_from rd s close (suc m) (Shut e) = Shut e
stop_from rd s close (suc m) (Stray p) = Stray p
stop_from rd s close (suc m) (Item p) = elim (rd p) [
  | got v q ↦ elim (dimension (forget v)) [ gives n ↦ stop_from rd s close m (then_at s q close) | refused j ↦ Item p ]
  | fault a ↦ Item p
  | deep a ↦ Item p
]

-- those of the members from a position up to the bracket, and the gap after them
abbrev pub front_in : ℕ → List ℕ → ℕ → ℕ → List ℕ
front_in k s from close = front_from (value k s) s close (length s + 2) (gap_at s from close)

abbrev pub stop_in : ℕ → List ℕ → ℕ → ℕ → Gap
stop_in k s from close = stop_from (value k s) s close (length s + 2) (gap_at s from close)

-- those of the list or tuple at a position, where k brackets more may open: all of a shape (`front_shape`, proofs/Stored.antt), none where no such
-- bracket may be
unfoldable pub front_at : ℕ → List ℕ → ℕ → List ℕ
front_at k s at =
    cond (eqb (closing_of (kind_of (byte_at s at))) 0 || eqb k 0) []
    (front_in (k - 1) s (at + 1) (closing_of (kind_of (byte_at s at))))

-- the gap after them: shut where the value ends, of a shape (`stop_shape`, proofs/Stored.antt), and a stray byte at the position where no such bracket
-- may be
unfoldable pub stop_at : ℕ → List ℕ → ℕ → Gap
stop_at k s at =
    cond (eqb (closing_of (kind_of (byte_at s at))) 0 || eqb k 0) (Stray at)
    (stop_in (k - 1) s (at + 1) (closing_of (kind_of (byte_at s at))))

-- the dimensions ns, followed by the gap g, were stored and counted
pub record Stored (ns : List ℕ) (g : Gap) (out : List ℕ) (r : DimsStored) (out' : List ℕ) : Type 0 where
  pub counted : r.rank ≡ length ns
  pub stopped : r.stop ≡ g
  pub out_after : out' ≡ sets out 0 ns
