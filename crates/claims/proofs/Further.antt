-- The functions beside those that demand 2 names are exact (specs/Further.antt), by the laws of Exact.antt: each puts in its room what is due, or refuses.
use Prim.Native.Nat.{ℕ, ◌≤◌}
use mathlib.Core.Path.{◌≡◌, refl, sym, ap, subst, ◌∙◌}
use mathlib.Core.Bool.{Bool, true, false, not, cond, ◌&&◌}
use mathlib.Core.List.{List, [], ◌∷◌}
use lib.Dec.{ltb, eqb}
use lib.ListN.{length, get_or}
use borrow.Author.Tests.{le-ltb, ltb-false, not-false, eqb-true}
use Rattle.counts.specs.Outcome.{Outcome, gives, refused, then, each, afterwards, unless}
use Rattle.counts.specs.Lists.{at_front}
use Rattle.counts.specs.Owes.{roomed}
use Rattle.counts.proofs.Apart.{refused_gives, gives_apart}
use Rattle.counts.proofs.Holds.{unless_back, then_back, each_back}
use Rattle.utf8_scalar.specs.Scalar.{is_scalar}
use Rattle.utf8_scalar.specs.Encode.{encode}
use Rattle.utf8_scalar.specs.Answer.{encoding}
use Rattle.type_str.specs.declared.TypeStr.{TypeStr}
use Rattle.type_str.specs.Text.{is_type, type_text, type_printed}
use Rattle.dtype.specs.declared.Order.{Order}
use Rattle.dtype.specs.Limits.{over_shape}
use Rattle.dtype.specs.Record.{Record}
use Rattle.dtype.specs.Shape.{product, strides}
use Rattle.shape.specs.Count.{strides_count}
use Rattle.record.specs.Header as header
use Rattle.record.specs.Rooms.{needs, too_small, Lent, rooms_of, holding}
use Rattle.record.specs.Prefix.{Version, one_zero, two_zero, three_zero, major, version_of}
use Rattle.record.proofs.Numbers.{Numbered, each_numbered, then_numbered}
use Rattle.check_record.specs.Checked.{checked_record}
use Rattle.check_record.proofs.Accepts.{checked_valid, valid_checked}
use Rattle.judge.specs.Judged.{reading}
use Rattle.judge.proofs.Top.{reading_keeps}
use Rattle.header.specs.Reads.{info_of}
use Rattle.list_text.specs.Listing.{listing}
use Rattle.list_record.specs.Answer.{listed}
use Rattle.string_value.specs.Elements.{bytes_in, points_in}
use Rattle.string_value.specs.Rooms.{read_bytes, read_points}
use Rattle.npy_codes.specs.Codes.{one_number, order_number, order_for, text_values}
use Rattle.npy.specs.Calls.{Puts}
use Rattle.claims.specs.Doors.{Door, in_rattle, in_c}
use Rattle.claims.specs.Exact.{InText, Fits, ByItself}
use Rattle.claims.specs.Functions.{report_by}
use Rattle.claims.specs.Further.{ReadsTextExactly, StridesDue, StridesExactly, ListingIs, Encoded, FurtherExact, FurtherExactInC}
use Rattle.claims.proofs.Doors.{Fails, rattle_fails, c_fails, c_returned, exactly_by}
use Rattle.claims.proofs.Numbers.{text_numbered, for_numbered, version_for_numbered, listed_numbered, strides_numbered, type_printed_numbered, read_bytes_numbered, read_points_numbered}
use Rattle.claims.proofs.Roomy.{roomy_fits, fits_roomy}
use Rattle.claims.proofs.Found.{order_named, order_back}
use Rattle.claims.proofs.Exact.{in_text_read, read_in_text, PutsDue, Names, by_itself_due, takes_in_rattle, takes_in_c, takes_by_type}

-- ---- a text by itself
module _ (text : List ℕ) (l : Lent) where
  in_text_fitted : (r : Record) → InText text r → Fits l r → header.text_by reading text l ≡ gives r
  in_text_fitted r s fits = let e = in_text_read text r s in let small = roomy_fits r l fits in simp (e, small)

  pub fitted_in_text : (r : Record) → header.text_by reading text l ≡ gives r → InText text r × Fits l r
  fitted_in_text r e =
      let (q, is, of_room) = then_back (header.record_in reading text) _ r e in
      let (fits, same) = unless_back (too_small (rooms_of l) (needs q)) 23 _ r of_room in
      let equal : q ≡ r = gives_apart same in
      (subst (InText text) equal (read_in_text text q is), subst (Fits l) equal (fits_roomy q l fits))

  reads_text_exactly : {R : Type 0} (door : Door _ R) (y : R) (l' : Lent) → y ≡ door.returned (each info_of (header.text_by reading text l)) → l' ≡ afterwards holding (header.text_by reading text l) l
      → Fails door (each info_of (header.text_by reading text l)) → ReadsTextExactly door text l y l'
  reads_text_exactly door y l' is after fails =
      exactly_by door (λ r. InText text r × Fits l r) info_of holding l y l' (each info_of (header.text_by reading text l)) is fails
      (λ r d. let e = in_text_fitted r d.0 d.1 in (ap (each info_of) e, after ∙ ap (λ (o : Outcome Record). afterwards holding o l) e))
      (λ i e. let (r, is_record, _) = each_back info_of (header.text_by reading text l) i e in (r, fitted_in_text r is_record))

-- ---- elements by themselves
read_bytes_put : (k : TypeStr) (run room : List ℕ) → read_bytes k run room ≡ unless (not (is_type k)) 27 (then (bytes_in k run) (roomed 23 room))
unfolding read_bytes
read_bytes_put k run room = refl

read_points_put : (k : TypeStr) (run room : List ℕ) → read_points k run room ≡ unless (not (is_type k)) 27 (then (points_in k run) (roomed 23 room))
unfolding read_points
read_points_put k run room = refl

module _ (out : List ℕ) (k : TypeStr) where
  read_bytes_due : (run : List ℕ) → PutsDue (read_bytes k run out) (ByItself k (bytes_in k run) out)
  read_bytes_due run = by_itself_due k (bytes_in k run) 23 out (read_bytes k run out) (read_bytes_put k run out)

  read_points_due : (run : List ℕ) → PutsDue (read_points k run out) (ByItself k (points_in k run) out)
  read_points_due run = by_itself_due k (points_in k run) 23 out (read_points k run out) (read_points_put k run out)

  type_print_due : PutsDue (type_printed k out) (ByItself k (gives (type_text k [])) out)
  unfolding type_printed
  type_print_due = by_itself_due k (gives (type_text k [])) 28 out (type_printed k out) refl

-- ---- content that is known, and fits the room or not
roomed_fits : (n : ℕ) (room content : List ℕ) → length content ≤ length room → roomed n room content ≡ gives content
unfolding roomed
roomed_fits n room content h = rw (roomed, le-ltb _ _ h)

fits_roomed : (n : ℕ) (room content c : List ℕ) → roomed n room content ≡ gives c → (c ≡ content) × (length c ≤ length room)
unfolding roomed
fits_roomed n room content c e =
    let (fits, is) = unless_back (ltb (length room) (length content)) n (gives content) c e in
    let same : content ≡ c = gives_apart is in
    (sym same, subst (λ (y : List ℕ). length y ≤ length room) same (ltb-false _ _ fits))

known_due : (n : ℕ) (room content : List ℕ) → PutsDue (roomed n room content) (λ c. (c ≡ content) × (length c ≤ length room))
known_due n room content =
    record {
      due = λ c d. roomed_fits n room content (subst (λ (y : List ℕ). length y ≤ length room) d.0 d.1) ∙ ap gives (sym d.0);
      back = λ c e. fits_roomed n room content c e;
    }

-- ---- a listing
module _ (start : ℕ) (t ns s out : List ℕ) (v : Version) (o : Order) where
  listed_due : PutsDue (listed v start t ns s o out) (ListingIs v start t ns s o out)
  listed_due =
      record {
        due = λ c d.
            ap (λ (g : Outcome Record). then g (λ r. roomed 28 out (listing v start r []))) (valid_checked t ns s o d.says d.valid)
            ∙ (known_due 28 out (listing v start d.says [])).due c (d.is, d.fits);
        back = λ c e.
            let (r, accepted, of_record) = then_back (checked_record t ns s o) _ c e in
            let (is, fits) = fits_roomed 28 out (listing v start r []) c of_record in
            record { says = r; valid = checked_valid t ns s o r accepted; is = is; fits = fits };
      }

-- ---- a character
encode_due : (value : ℕ) (out : List ℕ) → PutsDue (encoding value out) (Encoded value out)
unfolding encoding
encode_due value out =
    record {
      due = λ c d. rw (encoding, d.scalar) ((known_due 28 out (encode value)).due c (d.is, d.fits));
      back = λ c e.
          let (scalar, of_room) = unless_back (not (is_scalar value)) 29 _ c e in
          let (is, fits) = fits_roomed 28 out (encode value) c of_room in
          record { scalar = not-false (is_scalar value) scalar; is = is; fits = fits };
    }

-- ---- strides
module _ (o : Order) (s out : List ℕ) where
  strides_given : StridesDue o s out → strides_count o s (length out) ≡ gives (product s)
  unfolding strides_count
  strides_given d = rw (strides_count, d.within, le-ltb _ _ d.fits)

  given_strides : (n : ℕ) → strides_count o s (length out) ≡ gives n → StridesDue o s out
  unfolding strides_count
  given_strides n e =
      let (within, of_room) = unless_back (over_shape o s) 22 _ n e in
      let (fits, _) = unless_back (ltb (length out) (length s)) 23 _ n of_room in
      record { within = within; fits = ltb-false _ _ fits }

-- ---- the numbers of a version and an order
version_named : (a : ℕ) (v : Version) → version_of a 0 ≡ gives v → a ≡ major v
version_named a v e = go (eqb a 1) (eqb a 2) (eqb a 3) refl refl refl e
  where
    go : (x y z : Bool) → eqb a 1 ≡ x → eqb a 2 ≡ y → eqb a 3 ≡ z
        → cond (x && true) (gives one_zero) (cond (y && true) (gives two_zero) (cond (z && true) (gives three_zero) (refused 2))) ≡ gives v → a ≡ major v
    go true y z p q k h = let same : one_zero ≡ v = gives_apart h in eqb-true a 1 p ∙ ap major same
    go false true z p q k h = let same : two_zero ≡ v = gives_apart h in eqb-true a 2 q ∙ ap major same
    go false false true p q k h = let same : three_zero ≡ v = gives_apart h in eqb-true a 3 k ∙ ap major same
    go false false false p q k h = refused_gives h

version_back_lem : (v : Version) → version_of (major v) 0 ≡ gives v
version_back_lem one_zero = refl
version_back_lem two_zero = refl
version_back_lem three_zero = refl

abbrev both : (version order : ℕ) → Outcome (Version × Order)
both version order = then (version_of version 0) (λ v. each (λ o. (v, o)) (order_for order))

module _ {B : Type 0} (next : Version → Order → Outcome B) where
  by_both : (x : Outcome Version) (y : Outcome Order)
      → then x (λ v. then y (λ o. next v o)) ≡ then {A = Version × Order} (then {B = Version × Order} x (λ v. each {B = Version × Order} (λ o. (v, o)) y)) (λ a. next a.0 a.1)
  by_both (gives v) (gives o) = refl
  by_both (gives v) (refused n) = refl
  by_both (refused n) y = refl

two_of : {a b c d : ℕ} → a ≡ c → b ≡ d → ◌≡◌ {A = List ℕ} (a ∷ b ∷ []) (c ∷ d ∷ [])
two_of p q = cc

abbrev both_values : Version × Order → List ℕ
both_values a = major a.0 ∷ order_number a.1 ∷ []

both_names : {A : Type 0} (version order : ℕ) (Due : Version × Order → A → Type 0) → Names (both version order) (version ∷ order ∷ []) both_values Due
both_names version order Due =
    record {
      is = λ a x e d.
          ap (λ (l : List ℕ). both (get_or l 0 0) (get_or l 1 0)) e
          ∙ ap (λ (g : Outcome Version). then g (λ v. each (λ o. (v, o)) (order_for (order_number a.1)))) (version_back_lem a.0)
          ∙ ap (each (λ o. (a.0, o))) (order_back a.1);
      back = λ a e.
          let (v, same_version, of_order) = then_back (version_of version 0) _ a e in
          let (o, order_is, same) = each_back (λ o. (v, o)) (order_for order) a of_order in
          two_of (version_named version v same_version) (order_named order o order_is) ∙ ap both_values same;
    }

both_numbered : (version order : ℕ) → Numbered (both version order)
both_numbered version order =
    then_numbered (version_of version 0) _ (version_for_numbered version) (λ v. each_numbered (λ o. (v, o)) (order_for order) (for_numbered order))

-- ---- the claims
pub further_exact : FurtherExact
further_exact =
    record {
      read_text = λ text l x l' h.
          reads_text_exactly text l in_rattle _ l' (h.answered reading reading_keeps) (h.after reading reading_keeps) (rattle_fails _);
      strides = λ s o out y out' h.
          exactly_by in_rattle (λ a. (a ≡ o) × StridesDue a s out) (λ a. product s) (λ a. at_front (strides a s)) out _ out' (strides_count o s (length out)) h.answered (rattle_fails _)
          (λ a d.
          let e = strides_given o s out (subst (λ (q : Order). StridesDue q s out) d.0 d.1) in
          (e, h.out_after ∙ ap (λ (c : Outcome ℕ). afterwards (λ n. at_front (strides o s)) c out) e ∙ ap (λ (q : Order). at_front (strides q s) out) (sym d.0)))
          (λ n e. (o, (refl, given_strides o s out n e)));
      list = λ v start t ns s o out y out' h. takes_in_rattle (listed_due start t ns s out v o) h;
      report = λ file out y out' h other keeps. takes_in_rattle (known_due 28 out (report_by other file)) (h other keeps);
      read_bytes = λ run k out y out' h. takes_in_rattle (read_bytes_due out k run) h;
      read_points = λ run k out y out' h. takes_in_rattle (read_points_due out k run) h;
      type_print = λ k out y out' h. takes_in_rattle (type_print_due out k) h;
      encode = λ value out y out' h. takes_in_rattle (encode_due value out) h;
    }

pub further_exact_in_c : FurtherExactInC
further_exact_in_c =
    record {
      npy_read_text = λ text l said r l' said' h.
          reads_text_exactly text l (in_c text_values said) (r, said') l' (c_returned (h.answered reading reading_keeps)) (h.after reading reading_keeps)
          (c_fails text_values said _ (each_numbered info_of _ (text_numbered reading text l)));
      npy_strides = λ s order out count r out' count' h.
          let counted = then (order_for order) (λ o. strides_count o s (length out)) in
          exactly_by (in_c one_number count) (λ o. (order ≡ order_number o) × StridesDue o s out) (λ o. product s) (λ o. at_front (strides o s)) out (r, count') out' counted
          (c_returned h.answered) (c_fails one_number count _ (then_numbered (order_for order) _ (for_numbered order) (λ o. strides_numbered o s (length out))))
          (λ o d.
          let named = ap order_for d.0 ∙ order_back o in
          let e = strides_given o s out d.1 in (
            ap (λ (g : Outcome Order). then g (λ q. strides_count q s (length out))) named ∙ e,
            h.room_after
                ∙ ap (λ (g : Outcome Order). afterwards (λ q. afterwards (λ n. at_front (strides q s)) (strides_count q s (length out))) g out) named
                ∙ ap (λ (c : Outcome ℕ). afterwards (λ n. at_front (strides o s)) c out) e,
          ))
          (λ n e.
          let (o, named, of_order) = then_back (order_for order) _ n e in
          (o, (order_named order o named, given_strides o s out n of_order)));
      npy_list = λ version start t ns s order out count r out' count' h.
          let next : Version → Order → Outcome (List ℕ) = λ v o. listed v start t ns s o out in
          takes_in_c (both version order) _ both_values (λ a. ListingIs a.0 start t ns s a.1 out) (both_names version order _) (λ a. next a.0 a.1) out (both_numbered version order)
          (λ a. listed_numbered a.0 start t ns s a.1 out) (λ a. listed_due start t ns s out a.0 a.1) count r out' count'
          (subst (λ (put : Outcome (List ℕ)). Puts put out count r out' count') (by_both next (version_of version 0) (order_for order)) h);
      npy_read_bytes = λ run order letter size units out.
          takes_by_type order letter size units (λ k. bytes_in k run) (λ k. read_bytes k run out) out (λ k. read_bytes_numbered k run out) (λ k. read_bytes_due out k run);
      npy_read_points = λ run order letter size units out.
          takes_by_type order letter size units (λ k. points_in k run) (λ k. read_points k run out) out (λ k. read_points_numbered k run out) (λ k. read_points_due out k run);
      npy_type_print = λ order letter size units out.
          takes_by_type order letter size units (λ k. gives (type_text k [])) (λ k. type_printed k out) out (λ k. type_printed_numbered k out) (λ k. type_print_due out k);
    }
