-- A place that is given has a type that readings give: its record was checked, and no plain type of it is another. So after its place an element's reading never has
-- a 27 of its own, and document 01's "A string element is read after its place: 29, 23" is all that is left (26 for another type aside); and of a value 31 and 32.
use Prim.Native.Nat.{ℕ, ◌+◌, ◌≤◌}
use native.Mathlib.Omega.{arith}
use mathlib.Core.Path.{◌≡◌, refl, ap, subst, ◌∙◌}
use mathlib.Core.Bool.{Bool, true, false, not}
use mathlib.Core.List.{List}
use lib.Dec.{ltb}
use lib.ListN.{length, drop, length-drop}
use lib.Seq.{length-take-le}
use borrow.Author.Tests.{ltb-false}
use Rattle.counts.specs.Outcome.{Outcome, gives, refused, then, each, unless}
use Rattle.counts.proofs.Apart.{refused_gives, gives_apart}
use Rattle.type_str.specs.Text.{is_type}
use Rattle.type_str.specs.declared.TypeStr.{TypeStr}
use Rattle.dtype.specs.declared.Order.{Order}
use Rattle.dtype.specs.Entries.{has_object}
use Rattle.dtype.specs.Shape.{in_range}
use Rattle.dtype.specs.Record.{Record}
use Rattle.dtype.specs.PlainBytes.{plain_bytes}
use Rattle.dtype.specs.Places.{plain_at, data_bytes, place}
use Rattle.dtype.proofs.Runs.{run_plain}
use Rattle.dtype.proofs.Places.{run_inside}
use Rattle.place_item.proofs.Sums.{range_of}
use Rattle.check_table.specs.Reading.{untyped}
use Rattle.check_table.proofs.Readable.{readable_typed}
use Rattle.check_record.specs.Checked.{checked_record}
use Rattle.check_record.proofs.Accepts.{accepts_valid}
use Rattle.place_area.specs.declared.Run.{Run}
use Rattle.place.specs.Place.{run_from, placed, place_of}
use Rattle.place.proofs.Walks.{plain_path, plain_typed}
use Rattle.value.specs.Values.{value_in}
use Rattle.value.proofs.Forms.{value_of_run, value_bytes_lem}
use Rattle.string_value.specs.Elements.{bytes_in, points_in}
use Rattle.counts.specs.Owes.{roomed}
use Rattle.string_value.specs.Rooms.{read_bytes, read_points}
use Rattle.element.specs.Bytes.{run_bytes}
use Rattle.element.specs.Element.{element_bytes, element_points, element_value}

passed : {A : Type 0} {a : A} (b : Bool) (n : ℕ) (o : Outcome A) → unless b n o ≡ gives a → o ≡ gives a
passed true n o e = refused_gives e
passed false n o e = e

module _ (file start : ℕ) (x p : List ℕ) (u : Run) where
  run_typed : (r : Record) → untyped r.dtype ≡ false → (c : Outcome TypeStr) → plain_at r.dtype p ≡ c
      → each (λ ty. run_from (place start r x p) ty) c ≡ gives u → is_type u.kind ≡ true
  run_typed r n (gives ty) e k =
      let z : ty ≡ u.kind = ap (λ (v : Run). v.kind) (gives_apart k) in
      plain_typed r.dtype p u.kind n (e ∙ ap gives z)
  run_typed r n (refused m) e k = refused_gives k

  in_record_typed : (r : Record) → untyped r.dtype ≡ false → placed file start r x p ≡ gives u → is_type u.kind ≡ true
  unfolding placed
  in_record_typed r n h =
      run_typed r n (plain_at r.dtype p) refl
      (passed (not (in_range r.shape x)) 26 _ (passed (ltb file (start + data_bytes r)) 25 _ (passed (has_object r.dtype) 24 _ h)))

  pub place_typed : (t ns s : List ℕ) (o : Order) → place_of file start t ns s o x p ≡ gives u → is_type u.kind ≡ true
  unfolding place_of
  place_typed t ns s o h = go (checked_record t ns s o) refl h
    where
      go : (c : Outcome Record) → checked_record t ns s o ≡ c → then c (λ r. placed file start r x p) ≡ gives u → is_type u.kind ≡ true
      go (gives r) e k =
          let v = accepts_valid t ns s o r e in
          in_record_typed r (ap (λ (y : Record). untyped y.dtype) v.1 ∙ readable_typed v.0 v.2.readable) k
      go (refused n) e k = refused_gives k

-- ---- and as many bytes of the file as the type has
module _ (file : List ℕ) (start : ℕ) (x p : List ℕ) (u : Run) where
  run_long : (r : Record) → start + data_bytes r ≤ length file → in_range r.shape x ≡ true → (c : Outcome TypeStr) → plain_at r.dtype p ≡ c
      → each (λ ty. run_from (place start r x p) ty) c ≡ gives u → length (run_bytes file u) ≡ plain_bytes u.kind
  run_long r long h (gives ty) e k =
      let z : run_from (place start r x p) ty ≡ u = gives_apart k in
      let inside = run_inside start r x p (range_of r.shape x h) (plain_path r.dtype p ty e) in
      subst (λ (v : Run). length (run_bytes file v) ≡ plain_bytes v.kind) z
      (length-take-le (plain_bytes ty) (drop (place start r x p) file)
      (omega (arith, length-drop (place start r x p) file, long, inside, run_plain r.dtype p ty e)))
  run_long r long h (refused m) e k = refused_gives k

  pub in_record_long : (r : Record) → placed (length file) start r x p ≡ gives u → length (run_bytes file u) ≡ plain_bytes u.kind
  unfolding placed
  in_record_long r h = go (has_object r.dtype) (ltb (length file) (start + data_bytes r)) (in_range r.shape x) refl refl h
    where
      go : (a b c : Bool) → ltb (length file) (start + data_bytes r) ≡ b → in_range r.shape x ≡ c
          → unless a 24 (unless b 25 (unless (not c) 26 (each (λ ty. run_from (place start r x p) ty) (plain_at r.dtype p)))) ≡ gives u → length (run_bytes file u) ≡ plain_bytes u.kind
      go true b c e f h = refused_gives h
      go false true c e f h = refused_gives h
      go false false false e f h = refused_gives h
      go false false true e f h = run_long r (ltb-false (length file) (start + data_bytes r) e) f (plain_at r.dtype p) refl h

  pub place_long : (t ns s : List ℕ) (o : Order) → place_of (length file) start t ns s o x p ≡ gives u → length (run_bytes file u) ≡ plain_bytes u.kind
  unfolding place_of
  place_long t ns s o h = go (checked_record t ns s o) h
    where
      go : (c : Outcome Record) → then c (λ r. placed (length file) start r x p) ≡ gives u → length (run_bytes file u) ≡ plain_bytes u.kind
      go (gives r) k = in_record_long r k
      go (refused n) k = refused_gives k

-- ---- so of an element
then_same : {A : Type 0} (c : Outcome Run) (f g : Run → Outcome A) → ((u : Run) → c ≡ gives u → f u ≡ g u) → then c f ≡ then c g
then_same (gives u) f g h = h u refl
then_same (refused n) f g h = refl

module _ (file : List ℕ) (start : ℕ) (t ns s : List ℕ) (o : Order) (x p room : List ℕ) where
  pub bytes_after : element_bytes file start t ns s o x p room
      ≡ then (place_of (length file) start t ns s o x p) (λ u. then (bytes_in u.kind (run_bytes file u)) (roomed 23 room))
  unfolding element_bytes read_bytes
  bytes_after = then_same (place_of (length file) start t ns s o x p) _ _ (λ u e. rw (read_bytes, place_typed (length file) start x p u t ns s o e))

  pub points_after : element_points file start t ns s o x p room
      ≡ then (place_of (length file) start t ns s o x p) (λ u. then (points_in u.kind (run_bytes file u)) (roomed 23 room))
  unfolding element_points read_points
  points_after = then_same (place_of (length file) start t ns s o x p) _ _ (λ u e. rw (read_points, place_typed (length file) start x p u t ns s o e))

module _ (file : List ℕ) (start : ℕ) (t ns s : List ℕ) (o : Order) (x p : List ℕ) where
  pub value_after : element_value file start t ns s o x p ≡ then (place_of (length file) start t ns s o x p) (λ u. value_in u.kind (run_bytes file u))
  unfolding element_value
  value_after =
      then_same (place_of (length file) start t ns s o x p) _ _
      (λ u e. value_of_run u.kind (run_bytes file u) (place_typed (length file) start x p u t ns s o e)
      (λ k. place_long file start x p u t ns s o e ∙ value_bytes_lem u.kind k))
