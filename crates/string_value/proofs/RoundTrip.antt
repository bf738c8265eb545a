-- What was written is read back: of S and U the value without its trailing zeros, of V the value. So two values that differ in more than trailing zeros (of V: that
-- differ) are never written alike. What goes to the room is the value filled up with zeros, and those are dropped again; four bytes of a scalar value read as
-- that scalar value, by the law over all widths of crate number_bytes.
use Prim.Native.Nat.{ℕ, zero, suc, ◌-◌}
use native.Mathlib.Omega.{arith}
use mathlib.Core.Path.{◌≡◌, refl, sym, ap, ◌∙◌}
use mathlib.Core.Bool.{Bool, true, false, not, ◌&&◌}
use lib.Dec.{ltb, eqb}
use mathlib.Core.List.{List, [], ◌∷◌, ◌++◌}
use lib.ListN.{length, replicate, length-append}
use lib.Seq.{take_at, drop_at}
use borrow.Author.Tests.{not-false}
use Rattle.counts.specs.Outcome.{Outcome, gives, refused, then, each, unless}
use Rattle.counts.proofs.Alike.{and_left, and_right}
use Rattle.counts.proofs.Apart.{refused_gives, gives_apart}
use Rattle.number_bytes.specs.Numbers.{in_order, out_order}
use Rattle.number_bytes.proofs.Runs.{length_out}
use Rattle.number_bytes.proofs.Widths.{in_out}
use Rattle.utf8_scalar.specs.Scalar.{is_scalar, all_scalars}
use Rattle.utf8_scalar.proofs.Scalars.{scalar_low, scalar_below}
use Rattle.type_str.specs.Text.{is_type}
use Rattle.type_letters.specs.Letters.{is_unicode}
use Rattle.type_letters.specs.declared.Endianness.{Endianness}
use Rattle.type_letters.specs.declared.TypeChar.TheVariants.{ByteStr, RawData}
use Rattle.type_str.specs.declared.TypeStr.{TypeStr}
use Rattle.string_value.specs.Elements.{trimmed, scalar, point, points, points_in}
use Rattle.string_value.specs.Runs.{zero_filled, bytes_out, point_bytes, points_out}
use Rattle.counts.specs.Owes.{roomed}
use Rattle.string_value.specs.Rooms.{read_bytes, read_points, write_bytes, write_points}
use Rattle.string_value.proofs.Scalars.{scalar_is, point_four, point_step}
use Rattle.string_value.proofs.Places.{trim_filled}
use Rattle.string_value.proofs.Ways.{read_bytes_by, in_bytes, in_raw, out_bytes, out_raw}

-- ---- what was given passed every check
passed : {A : Type 0} {a : A} (b : Bool) (n : ℕ) (o : Outcome A) → unless b n o ≡ gives a → (b ≡ false) × (o ≡ gives a)
passed true n o e = refused_gives e
passed false n o e = (refl, e)

had_room : (o : Outcome (List ℕ)) (n : ℕ) (room run : List ℕ) → then o (roomed n room) ≡ gives run → o ≡ gives run
unfolding roomed
had_room (gives content) n room run e = (passed (ltb (length room) (length content)) n (gives content) e).1
had_room (refused m) n room run e = refused_gives e

bytes_run : (t : TypeStr) (value room run : List ℕ) → write_bytes t value room ≡ gives run → bytes_out t value ≡ gives run
unfolding write_bytes
bytes_run t value room run e = had_room (bytes_out t value) 28 room run (passed (not (is_type t)) 27 _ e).1

-- a value that was written was written to a type that readings give
bytes_typed : (t : TypeStr) (value room run : List ℕ) → write_bytes t value room ≡ gives run → is_type t ≡ true
unfolding write_bytes
bytes_typed t value room run e = not-false (is_type t) (passed (not (is_type t)) 27 _ e).0

points_typed : (t : TypeStr) (value room run : List ℕ) → write_points t value room ≡ gives run → is_type t ≡ true
unfolding write_points
points_typed t value room run e = not-false (is_type t) (passed (not (is_type t)) 27 _ e).0

-- ---- S and V
s_run : (t : TypeStr) (value room run : List ℕ) → t.letter ≡ ByteStr → write_bytes t value room ≡ gives run → trimmed run ≡ trimmed value
s_run t value room run k e =
    let out = sym (out_bytes t value k) ∙ bytes_run t value room run e in
    let r : zero_filled t.size value ≡ run = gives_apart (passed (ltb t.size (length value)) 30 (gives (zero_filled t.size value)) out).1 in
    ap (λ (l : List ℕ). trimmed l) (sym r) ∙ trim_filled t.size value

v_run : (t : TypeStr) (value room run : List ℕ) → t.letter ≡ RawData → write_bytes t value room ≡ gives run → run ≡ value
v_run t value room run k e =
    let out = sym (out_raw t value k) ∙ bytes_run t value room run e in
    sym (gives_apart (passed (not (eqb t.size (length value))) 30 (gives value) out).1)

pub s_back : (t : TypeStr) (value room run room' : List ℕ) → t.letter ≡ ByteStr → write_bytes t value room ≡ gives run
    → read_bytes t run room' ≡ roomed 23 room' (trimmed value)
s_back t value room run room' k e =
    sym (read_bytes_by t run room' (bytes_typed t value room run e) _ (in_bytes t run k)) ∙ ap (λ (l : List ℕ). roomed 23 room' l) (s_run t value room run k e)

pub v_back : (t : TypeStr) (value room run room' : List ℕ) → t.letter ≡ RawData → write_bytes t value room ≡ gives run
    → read_bytes t run room' ≡ roomed 23 room' value
v_back t value room run room' k e =
    sym (read_bytes_by t run room' (bytes_typed t value room run e) _ (in_raw t run k)) ∙ ap (λ (l : List ℕ). roomed 23 room' l) (v_run t value room run k e)

pub s_apart : (t : TypeStr) (a b room room' run : List ℕ) → t.letter ≡ ByteStr → write_bytes t a room ≡ gives run → write_bytes t b room' ≡ gives run → trimmed a ≡ trimmed b
s_apart t a b room room' run k d e = sym (s_run t a room run k d) ∙ s_run t b room' run k e

pub v_apart : (t : TypeStr) (a b room room' run : List ℕ) → t.letter ≡ RawData → write_bytes t a room ≡ gives run → write_bytes t b room' ≡ gives run → a ≡ b
v_apart t a b room room' run k d e = sym (v_run t a room run k d) ∙ v_run t b room' run k e

-- ---- U
scalars_zeros : (l : List ℕ) (n : ℕ) → all_scalars (l ++ replicate n 0) ≡ all_scalars l
scalars_zeros [] zero = refl
scalars_zeros [] (suc n) = rw (scalar_low 0 (omega arith)) (scalars_zeros [] n)
scalars_zeros (c ∷ l) n = ap (λ (b : Bool). is_scalar c && b) (scalars_zeros l n)

module _ (order : Endianness) (p : ℕ) (s : is_scalar p ≡ true) (x : List ℕ) where
  point_written : point order (out_order order 4 p ++ x) ≡ gives p
  point_written =
      point_four order (out_order order 4 p ++ x) (rw length-append (omega (arith, length_out order 4 p)))
      ∙ ap (λ (l : List ℕ). scalar (in_order order l)) (take_at (out_order order 4 p) x 4 (length_out order 4 p))
      ∙ ap (λ (n : ℕ). scalar n) (in_out order 4 p (omega (arith, scalar_below p s)))
      ∙ scalar_is p s

  points_written : points order (out_order order 4 p ++ x) ≡ each (λ (ps : List ℕ). p ∷ ps) (points order x)
  points_written =
      (point_step order (out_order order 4 p ++ x) p point_written).1
      ∙ ap (λ (l : List ℕ). each (λ (ps : List ℕ). p ∷ ps) (points order l)) (drop_at (out_order order 4 p) x 4 (length_out order 4 p))

points_back : (order : Endianness) (ps : List ℕ) → all_scalars ps ≡ true → points order (point_bytes order ps []) ≡ gives ps
points_back order [] a = refl
points_back order (p ∷ ps) a =
    points_written order p (and_left (is_scalar p) (all_scalars ps) a) (point_bytes order ps [])
    ∙ ap (λ (o : Outcome (List ℕ)). each (λ (qs : List ℕ). p ∷ qs) o) (points_back order ps (and_right (is_scalar p) (all_scalars ps) a))

-- code points that passed the checks of their value are read back
u_found : (order : Endianness) (size : ℕ) (value run : List ℕ)
    → unless (not (all_scalars value)) 29 (unless (ltb size (length value)) 30 (gives (point_bytes order (zero_filled size value) []))) ≡ gives run
    → each trimmed (points order run) ≡ gives (trimmed value)
unfolding zero_filled
u_found order size value run e =
    let one = passed (not (all_scalars value)) 29 _ e in
    let all : all_scalars value ≡ true = not-false (all_scalars value) one.0 in
    let run_is : point_bytes order (zero_filled size value) [] ≡ run = gives_apart (passed (ltb size (length value)) 30 (gives (point_bytes order (zero_filled size value) [])) one.1).1 in
    let back = points_back order (zero_filled size value) (scalars_zeros value (size - length value) ∙ all) in
    ap (λ (l : List ℕ). each trimmed (points order l)) (sym run_is) ∙ ap (λ (o : Outcome (List ℕ)). each trimmed o) back ∙ ap gives (trim_filled size value)

u_run : (t : TypeStr) (value room run : List ℕ) → write_points t value room ≡ gives run → points_in t run ≡ gives (trimmed value)
unfolding write_points points_out points_in
u_run t value room run e =
    let out = had_room (points_out t value) 28 room run (passed (not (is_type t)) 27 _ e).1 in
    let (letter, written) = passed (not (is_unicode t.letter)) 26 _ out in
    rw (points_in, not-false (is_unicode t.letter) letter) (u_found t.order t.size value run written)

pub u_back : (t : TypeStr) (value room run room' : List ℕ) → write_points t value room ≡ gives run → read_points t run room' ≡ roomed 23 room' (trimmed value)
unfolding read_points
u_back t value room run room' e =
    rw (read_points, points_typed t value room run e) (ap (λ (o : Outcome (List ℕ)). then o (roomed 23 room')) (u_run t value room run e))

pub u_apart : (t : TypeStr) (a b room room' run : List ℕ) → write_points t a room ≡ gives run → write_points t b room' ≡ gives run → trimmed a ≡ trimmed b
u_apart t a b room room' run d e = gives_apart (sym (u_run t a room run d) ∙ u_run t b room' run e)
