-- The contract of each of the four functions at each of its ends. A type that no reading gives is 27 before all else; then the letter decides: only U has code points;
-- then the value fits the room or does not.
use Rattle.std.specs.Prelude.{None, Some, Option}
use Prim.Native.Nat.{ℕ, ◌^◌, ◌<◌, ◌≤◌}
use native.Mathlib.Omega.{arith}
use mathlib.Core.Path.{◌≡◌, refl, sym, ap, ◌∙◌}
use mathlib.Core.Bool.{true, false, not}
use mathlib.Core.List.{List, [], ◌++◌}
use lib.Dec.{eqb, ltb}
use lib.ListN.{length, take, drop}
use borrow.Author.Tests.{lt-ltb, le-ltb, eq-eqb, ne_eqb}
use Rattle.counts.specs.Outcome.{Outcome, gives, refused, then, each, unless}
use Rattle.counts.specs.Number.{number}
use Rattle.counts.specs.Counts.{bytes}
use Rattle.counts.specs.declared.Bytes.{Bytes}
use Rattle.counts.proofs.Fits.{number_is_back, number_over_back}
use Rattle.counts.proofs.Apart.{gives_refused, each_none}
use Rattle.utf8_scalar.specs.Scalar.{all_scalars}
use Rattle.type_letters.specs.Letters.{is_unicode, is_bytes, is_raw}
use Rattle.type_str.specs.Text.{is_type}
use Rattle.type_letters.specs.declared.TypeChar.TheVariants.{ByteStr, RawData}
use Rattle.type_str.specs.declared.TypeStr.{TypeStr}
use Rattle.string_value.specs.Elements.{trimmed, bytes_in, points, points_in, found}
use Rattle.string_value.specs.Runs.{zero_filled, bytes_out, point_bytes, points_out}
use Rattle.counts.specs.Owes.{roomed, Owes}
use Rattle.string_value.specs.Rooms.{read_bytes, read_points, write_bytes, write_points}
use Rattle.string_value.proofs.Trims.{trim_take, trim_length}
use Rattle.counts.proofs.Owes.{owes_same, owes_short, owes_whole}
use Rattle.string_value.proofs.Places.{filled_exact}

-- ---- a type that no reading gives: 27 of each of the four
module _ (t : TypeStr) (content room : List ℕ) (h : is_type t ≡ false) where
  pub read_bytes_none : refused 27 ≡ read_bytes t content room
  unfolding read_bytes
  read_bytes_none = rw (read_bytes, h)

  pub read_points_none : refused 27 ≡ read_points t content room
  unfolding read_points
  read_points_none = rw (read_points, h)

  pub write_bytes_none : refused 27 ≡ write_bytes t content room
  unfolding write_bytes
  write_bytes_none = rw (write_bytes, h)

  pub write_points_none : refused 27 ≡ write_points t content room
  unfolding write_points
  write_points_none = rw (write_points, h)

-- ---- reading
pub read_bytes_by : (t : TypeStr) (run room : List ℕ) → is_type t ≡ true → (content : Outcome (List ℕ)) → bytes_in t run ≡ content → then content (roomed 23 room) ≡ read_bytes t run room
unfolding read_bytes
read_bytes_by t run room h content e = rw (read_bytes, h) (ap (λ (o : Outcome (List ℕ)). then o (roomed 23 room)) (sym e))

-- what a run is as bytes, by the letter
module _ (t : TypeStr) (run : List ℕ) where
  pub in_bytes : t.letter ≡ ByteStr → bytes_in t run ≡ gives (trimmed run)
  unfolding bytes_in
  in_bytes l = rw (bytes_in, l)

  pub in_raw : t.letter ≡ RawData → bytes_in t run ≡ gives run
  unfolding bytes_in
  in_raw l = rw (bytes_in, l)

  pub in_none : false ≡ is_bytes t.letter → false ≡ is_raw t.letter → bytes_in t run ≡ refused 26
  unfolding bytes_in
  in_none b r = rw (bytes_in, sym b, sym r)

-- a run that was checked gives its value
judged_found : {A : Type 0} (f : List ℕ → A) (o : Outcome (List ℕ)) (k : A) → gives k ≡ each f o → (o ≡ gives (found o)) × (k ≡ f (found o))
judged_found f (gives ps) k e = (refl, cc)
judged_found f (refused m) k e = gives_refused e

module _ (t : TypeStr) (run room : List ℕ) (h : is_type t ≡ true) where
  pub read_points_other : is_unicode t.letter ≡ false → refused 26 ≡ read_points t run room
  unfolding read_points points_in
  read_points_other u = rw (read_points, h, points_in, u)

  module _ (u : is_unicode t.letter ≡ true) where
    in_points : then (each trimmed (points t.order run)) (roomed 23 room) ≡ read_points t run room
    unfolding read_points points_in
    in_points = rw (read_points, h, points_in, u)

    pub read_points_bad : (n : ℕ) → refused n ≡ each (λ (ps : List ℕ). length (trimmed ps)) (points t.order run) → refused n ≡ read_points t run room
    read_points_bad n j =
        sym (ap (λ (o : Outcome (List ℕ)). then (each trimmed o) (roomed 23 room)) (each_none (λ ps. length (trimmed ps)) (points t.order run) n (sym j))) ∙ in_points

    module _ (k : ℕ) (j : gives k ≡ each (λ (ps : List ℕ). length (trimmed ps)) (points t.order run)) where
      left_of : k ≡ length (trimmed (found (points t.order run)))
      left_of = (judged_found (λ ps. length (trimmed ps)) (points t.order run) k j).1

      pub read_points_inside : k ≤ length (found (points t.order run))
      read_points_inside = omega (arith, left_of, trim_length (found (points t.order run)))

      in_room : roomed 23 room (trimmed (found (points t.order run))) ≡ read_points t run room
      in_room =
          sym (ap (λ (o : Outcome (List ℕ)). then (each trimmed o) (roomed 23 room)) (judged_found (λ ps. length (trimmed ps)) (points t.order run) k j).0) ∙ in_points

      pub read_points_short : length room < k → Owes (read_points t run room) room (refused 23) room
      read_points_short s = owes_same _ _ _ _ _ in_room (owes_short 23 room (trimmed (found (points t.order run))) (omega (arith, left_of)))

      pub read_points_whole : (answer : Outcome ℕ) (out : List ℕ) → k ≤ length room → answer ≡ gives k → out ≡ take k (found (points t.order run)) ++ drop k room
          → Owes (read_points t run room) room answer out
      read_points_whole answer out le a e =
          let ps = found (points t.order run) in
          let o : out ≡ trimmed ps ++ drop (length (trimmed ps)) room =
          e ∙ ap (λ (n : ℕ). take n ps ++ drop n room) left_of ∙ ap (λ (l : List ℕ). l ++ drop (length (trimmed ps)) room) (trim_take ps) in
          owes_same _ _ _ _ _ in_room
          (rw (a, o) (owes_whole 23 room (trimmed ps) k (omega (arith, left_of)) left_of))

-- ---- writing
module _ (t : TypeStr) (value room : List ℕ) (h : is_type t ≡ true) where
  pub write_bytes_by : (put : Outcome (List ℕ)) → bytes_out t value ≡ put → then put (roomed 28 room) ≡ write_bytes t value room
  unfolding write_bytes
  write_bytes_by put p = rw (write_bytes, h) (ap (λ (o : Outcome (List ℕ)). then o (roomed 28 room)) (sym p))

  pub write_points_by : (put : Outcome (List ℕ)) → points_out t value ≡ put → then put (roomed 28 room) ≡ write_points t value room
  unfolding write_points
  write_points_by put p = rw (write_points, h) (ap (λ (o : Outcome (List ℕ)). then o (roomed 28 room)) (sym p))

-- ---- the run of a value, by the letter
module _ (t : TypeStr) (value : List ℕ) where
  pub bytes_none : false ≡ is_bytes t.letter → false ≡ is_raw t.letter → bytes_out t value ≡ refused 26
  unfolding bytes_out
  bytes_none b r = rw (bytes_out, sym b, sym r)

  module _ (l : t.letter ≡ ByteStr) where
    pub out_bytes : bytes_out t value ≡ unless (ltb t.size (length value)) 30 (gives (zero_filled t.size value))
    unfolding bytes_out
    out_bytes = rw (bytes_out, l)

    pub bytes_long : t.size < length value → bytes_out t value ≡ refused 30
    bytes_long h = rw (out_bytes, lt-ltb t.size (length value) h)

    pub bytes_fit : length value ≤ t.size → bytes_out t value ≡ gives (zero_filled t.size value)
    bytes_fit h = rw (out_bytes, le-ltb t.size (length value) h)

  module _ (l : t.letter ≡ RawData) where
    pub out_raw : bytes_out t value ≡ unless (not (eqb t.size (length value))) 30 (gives value)
    unfolding bytes_out
    out_raw = rw (bytes_out, l)

    pub raw_other : (t.size ≡ length value → ⊥) → bytes_out t value ≡ refused 30
    raw_other h = rw (out_raw, ne_eqb t.size (length value) h)

    pub raw_fit : t.size ≡ length value → bytes_out t value ≡ gives (zero_filled t.size value)
    raw_fit h = rw (out_raw, eq-eqb t.size (length value) h, filled_exact t.size value h)

  pub points_none : is_unicode t.letter ≡ false → points_out t value ≡ refused 26
  unfolding points_out
  points_none u = rw (points_out, u)

  module _ (u : is_unicode t.letter ≡ true) where
    pub points_bad : all_scalars value ≡ false → points_out t value ≡ refused 29
    unfolding points_out
    points_bad s = rw (points_out, u, s)

    pub points_long : all_scalars value ≡ true → t.size < length value → points_out t value ≡ refused 30
    unfolding points_out
    points_long s h = rw (points_out, u, s, lt-ltb t.size (length value) h)

    pub points_fit : all_scalars value ≡ true → length value ≤ t.size → points_out t value ≡ gives (point_bytes t.order (zero_filled t.size value) [])
    unfolding points_out
    points_fit s h = rw (points_out, u, s, le-ltb t.size (length value) h)

-- ---- a count of bytes that fits, and one that does not
pub bytes_over_lem : (n : ℕ) → bytes (number n) ≡ None → 2 ^ 64 ≤ n
bytes_over_lem n e = go (number n) refl e
  where
    go : (m : Option ℕ) → number n ≡ m → bytes m ≡ None → 2 ^ 64 ≤ n
    go (Some k) r b = let z : ◌≡◌ {A = ℕ} 0 1 = cc in absurd (omega arith)
    go None r b = number_over_back n r

pub bytes_is : (n : ℕ) (b : Bytes) → bytes (number n) ≡ Some b → n ≡ b.0
bytes_is n b e = go (number n) refl e
  where
    same : (k : ℕ) → bytes (Some k) ≡ Some b → k ≡ b.0
    same k e = cc

    go : (m : Option ℕ) → number n ≡ m → bytes m ≡ Some b → n ≡ b.0
    go (Some k) r b = (number_is_back n k r).0 ∙ same k b
    go None r b = let z : ◌≡◌ {A = ℕ} 0 1 = cc in absurd (omega arith)
