-- An element's reading after its place: a refused place refuses it, and leaves the room as it was; a place that is given leaves the reading of its bytes.
use Prim.Native.Nat.{ℕ}
use mathlib.Core.Path.{◌≡◌, ap, subst, ◌∙◌}
use mathlib.Core.List.{List}
use lib.ListN.{length}
use Rattle.counts.specs.Outcome.{Outcome, gives, refused, then}
use Rattle.dtype.specs.declared.Order.{Order}
use Rattle.type_str.specs.declared.TypeStr.{TypeStr}
use Rattle.place_area.specs.declared.Run.{Run}
use Rattle.place.specs.Place.{place_of}
use Rattle.counts.specs.Owes.{Owes}
use Rattle.string_value.specs.Rooms.{read_bytes, read_points}
use Rattle.value.specs.declared.Value.{Value}
use Rattle.value.specs.Values.{read_value}
use Rattle.counts.proofs.Owes.{owes_refused, owes_same}
use Rattle.element.specs.Bytes.{run_bytes}
use Rattle.element.specs.Element.{element_bytes, element_points, element_value}

module _ (read : TypeStr → List ℕ → Outcome (List ℕ)) (file room : List ℕ) where
  abbrev reading : Run → Outcome (List ℕ)
  reading u = read u.kind (run_bytes file u)

  no_place : (n : ℕ) {place : Outcome Run} → refused n ≡ place → Owes (then place reading) room (refused n) room
  no_place n {place} e = owes_same (refused n) (then place reading) room (refused n) room (ap (λ (c : Outcome Run). then c reading) e) (owes_refused n room)

  at_place : (u : Run) {place : Outcome Run} {part room' : List ℕ} {a : Outcome ℕ} → gives u ≡ place → part ≡ run_bytes file u → Owes (read u.kind part) room a room'
      → Owes (then place reading) room a room'
  at_place u {place} {part} {room'} {a} e f h =
      subst (λ (c : Outcome Run). Owes (then c reading) room a room') e (subst (λ (l : List ℕ). Owes (read u.kind l) room a room') f h)

module _ (file : List ℕ) (start : ℕ) (t ns s : List ℕ) (o : Order) (x p room : List ℕ) where
  pub bytes_refused : (n : ℕ) → refused n ≡ place_of (length file) start t ns s o x p → Owes (element_bytes file start t ns s o x p room) room (refused n) room
  unfolding element_bytes
  bytes_refused n e = no_place (λ ty l. read_bytes ty l room) file room n e

  pub points_refused : (n : ℕ) → refused n ≡ place_of (length file) start t ns s o x p → Owes (element_points file start t ns s o x p room) room (refused n) room
  unfolding element_points
  points_refused n e = no_place (λ ty l. read_points ty l room) file room n e

  module _ (u : Run) {part room' : List ℕ} {a : Outcome ℕ} (e : gives u ≡ place_of (length file) start t ns s o x p) (f : part ≡ run_bytes file u) where
    pub bytes_placed : Owes (read_bytes u.kind part room) room a room' → Owes (element_bytes file start t ns s o x p room) room a room'
    unfolding element_bytes
    bytes_placed h = at_place (λ ty l. read_bytes ty l room) file room u e f h

    pub points_placed : Owes (read_points u.kind part room) room a room' → Owes (element_points file start t ns s o x p room) room a room'
    unfolding element_points
    points_placed h = at_place (λ ty l. read_points ty l room) file room u e f h

-- ---- a value
module _ (file : List ℕ) (start : ℕ) (t ns s : List ℕ) (o : Order) (x p : List ℕ) where
  pub value_refused : (n : ℕ) → refused n ≡ place_of (length file) start t ns s o x p → refused n ≡ element_value file start t ns s o x p
  unfolding element_value
  value_refused n e = ap (λ (c : Outcome Run). then c (λ u. read_value u.kind (run_bytes file u))) e

  pub value_placed : (u : Run) {part : List ℕ} {a : Outcome Value} → gives u ≡ place_of (length file) start t ns s o x p → part ≡ run_bytes file u
      → a ≡ read_value u.kind part → a ≡ element_value file start t ns s o x p
  unfolding element_value
  value_placed u e f h = h ∙ ap (read_value u.kind) f ∙ ap (λ (c : Outcome Run). then c (λ v. read_value v.kind (run_bytes file v))) e
