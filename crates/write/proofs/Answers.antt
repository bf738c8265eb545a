-- What writing a record whose text can be printed answers, refusal by refusal, and what the room then holds: the header's own bytes at its front, where it is long
-- enough. The text is as long as it was measured, and the version, the spaces and the lengths are those of its names and its length.
use Rattle.counts.specs.declared.Bytes.{Bytes}
use Rattle.std.specs.Prelude.{Err, Ok, Result}
use Prim.Native.Nat.{ℕ, ◌+◌, ◌^◌, ◌<◌, ◌≤◌}
use native.Mathlib.Omega.{arith}
use mathlib.Core.Path.{◌≡◌, sym, ap, ◌∙◌, subst}
use mathlib.Core.Bool.{Bool, true, false}
use mathlib.Core.List.{List, [], ◌∷◌, ◌++◌}
use borrow.Author.Tests.{lt-ltb, le-ltb}
use lib.ListN.{length, drop}
use lib.Seq.{sets-eq}
use mathlib.Core.Logic.{⊎_elim}
use Rattle.counts.specs.Outcome.{gives, refused}
use Rattle.counts.specs.Lists.{at_front}
use Rattle.counts.specs.Owes.{roomed}
use Rattle.counts.proofs.Owes.{owes_refused, owes_same, roomed_whole, roomed_short}
use Rattle.counts.specs.Number.{capped}
use Rattle.counts.proofs.Sides.{lt_or_ge}
use Rattle.refusal.specs.Numbers.{number_of}
use Rattle.refusal.specs.declared.Refusal.{Refusal}
use Rattle.refusal.specs.declared.Refusal.TheVariants.{OutputRoom}
use Rattle.emit.specs.Emits.{Emits}
use Rattle.literal_grammar.specs.Print.{spaces, print, value_of}
use Rattle.dtype.specs.declared.Order.{Order}
use Rattle.dtype.specs.Limits.{limited}
use Rattle.dtype.specs.Record.{Record}
use Rattle.record.specs.Prefix.{text_start, most_text}
use Rattle.record.specs.Layout.{header_layout}
use Rattle.record.specs.Padding.{is_ascii, spaces_after, version_for}
use Rattle.record.specs.Within.{within}
use Rattle.record.specs.File.{bare_text, version, text, text_length_of, file_by, file_of}
use Rattle.record.specs.Writing.{writing}
use Rattle.record.proofs.RoundTrips.{header_length, file_whole}
use Rattle.check_record.specs.Checked.{checked_record}
use Rattle.check_record.proofs.Accepts.{accepts_valid, checked_valid}
use Rattle.write_depth.specs.Printable.{printable}
use Rattle.write_depth.proofs.Views.{View, unread, too_deep_lem, shown, view}
use Rattle.write_text.specs.Prints.{PrintsText}
use Rattle.write_text.proofs.Prints.{printed_end}
use Rattle.write_padding.specs.declared.PaddingPlan.{PaddingPlan}
use Rattle.write_padding.specs.Plan.{planned}
use Rattle.header_prefix.specs.Answer.{version_is}
use Rattle.write_padding.proofs.Plans.{chosen_back, planned_too_long, planned_fits}
use Rattle.write.specs.Writes.{header_written, WritesHeader, WritesRecord}
use Rattle.write.proofs.Ascii.{text_ascii}

-- ---- 7, 4, 28, and the bytes, of a record within the limits
refused_by : (r : Record) (room : List ℕ) (why : Refusal) → writing r room ≡ refused (number_of why) → WritesRecord r room (Err why) room
refused_by r room why e = owes_same _ _ room _ _ (sym e) (owes_refused (number_of why) room)

module _ (r : Record) (room : List ℕ) (limits : limited r ≡ gives r) where
  seven : within (value_of (header_layout r)) 32 ≡ false → writing r room ≡ refused 7
  unfolding writing
  seven h = rw (writing, limits, h)

  module _ (near : within (value_of (header_layout r)) 32 ≡ true) where
    four : most_text < text_length_of r → writing r room ≡ refused 4
    unfolding writing
    four l = rw (writing, limits, near, lt-ltb most_text (text_length_of r) l)

    module _ (few : text_length_of r ≤ most_text) where
      fits_is : writing r room ≡ roomed 28 room (file_of r)
      unfolding writing
      fits_is = rw (writing, limits, near, le-ltb most_text (text_length_of r) few)

      twenty_eight : length room < header_length r → writing r room ≡ refused 28
      twenty_eight l = fits_is ∙ roomed_short 28 room (file_of r) (omega (arith, file_whole r))

      writing_all : header_length r ≤ length room → (n : ℕ) (out : List ℕ) → n ≡ header_length r → out ≡ at_front (file_of r) room
          → WritesRecord r room (Ok (record { 0 = n })) out
      writing_all l n out z e =
          let len = file_whole r in
          owes_same _ _ room _ _ (sym (fits_is ∙ roomed_whole 28 room (file_of r) (omega arith))) (record { answered = ap gives (z ∙ sym len); room_after = e })

-- ---- the plan is the record's
record Fits (x : Record) (p : PaddingPlan) : Type 0 where
  same_version : version_is p.version ≡ version x
  spaces_is : p.spaces ≡ spaces_after (text_start (version x) + length (bare_text x))
  text_is : p.text ≡ text_length_of x
  whole_is : p.whole ≡ header_length x

fits_by : (x : Record) (p : PaddingPlan) (a : Bool) (n : ℕ) → a ≡ is_ascii (bare_text x) → n ≡ length (bare_text x) → gives p ≡ planned a n → Fits x p
unfolding version text_length_of header_length
fits_by x p a n e z pl =
    let y = rw (e, z) at (planned_fits a n p pl).0 in
    record {
      same_version = ap (λ (q : PaddingPlan). version_is q.version) y ∙ chosen_back (version_for (is_ascii (bare_text x)) (length (bare_text x)));
      spaces_is = ap (λ (q : PaddingPlan). q.spaces) y;
      text_is = ap (λ (q : PaddingPlan). q.text) y;
      whole_is = ap (λ (q : PaddingPlan). q.whole) y;
    }

-- the bytes that are written are the record's own
bytes_are : (x : Record) (p : PaddingPlan) → Fits x p → file_by (version_is p.version) p.text (print (header_layout x) (spaces p.spaces (10 ∷ []))) ≡ file_of x
unfolding file_of text
bytes_are x p f = rw (f.same_version, f.text_is, f.spaces_is)

placed_whole : (x : Record) (p : PaddingPlan) → Fits x p → (room : List ℕ) → header_length x ≤ length room → (out : List ℕ) (q : ℕ)
    → Emits (λ z. file_by (version_is p.version) p.text (print (header_layout x) (spaces p.spaces (10 ∷ z)))) room 0 out q
    → out ≡ at_front (file_of x) room
placed_whole x p f room l out q h =
    let e = bytes_are x p f in
    let len = file_whole x in
    let z : 0 + length (file_of x) ≡ length (file_of x) = omega arith in
    h.stored [] ∙ rw e (sets-eq (file_of x) room 0 (omega arith) ∙ ap (λ (i : ℕ). file_of x ++ drop i room) z)

-- ---- a record whose text can be printed
module _ (t ns s : List ℕ) (o : Order) (x : Record) (can : checked_record t ns s o ≡ gives x) where
  limits_are : limited x ≡ gives x
  limits_are = (checked_valid t ns s o x can).limits

  ascii_is : (a : Bool) → a ≡ is_ascii ns → a ≡ is_ascii (bare_text x)
  ascii_is a e = let u = accepts_valid t ns s o x can in rw u.1 (e ∙ ap is_ascii u.2.names_are ∙ text_ascii u.0 s o)

can_print : (t ns s : List ℕ) (o : Order) (x : Record) → printable t ns s o ≡ gives x → (checked_record t ns s o ≡ gives x) × (within (value_of (header_layout x)) 32 ≡ true)
can_print t ns s o x h = go (view t ns s o)
  where
    go : View t ns s o → (checked_record t ns s o ≡ gives x) × (within (value_of (header_layout x)) 32 ≡ true)
    go (unread k e p) = absurd (let z : ◌≡◌ {A = ℕ} 0 1 = cc in omega arith)
    go (too_deep_lem y e w p) = absurd (let z : ◌≡◌ {A = ℕ} 0 1 = cc in omega arith)
    go (shown y e w p) = let z : y ≡ x = cc in subst (λ (r : Record). (checked_record t ns s o ≡ gives r) × (within (value_of (header_layout r)) 32 ≡ true)) z (e, w)

module _ (t ns s : List ℕ) (o : Order) (x : Record) (h : printable t ns s o ≡ gives x) (room : List ℕ) (n : ℕ) (measured : n ≡ capped (length (bare_text x))) where
  is_checked : checked_record t ns s o ≡ gives x
  is_checked = (can_print t ns s o x h).0

  near_is : within (value_of (header_layout x)) 32 ≡ true
  near_is = (can_print t ns s o x h).1

  length_is : n ≤ most_text → n ≡ length (bare_text x)
  length_is few = omega arith

  module _ (a : Bool) (ascii : a ≡ is_ascii ns) where
    same_ascii : a ≡ is_ascii (bare_text x)
    same_ascii = ascii_is t ns s o x is_checked a ascii

    pub record_4 : (why : Refusal) → refused (number_of why) ≡ planned a n → WritesRecord x room (Err why) room
    unfolding text_length_of version
    record_4 why e =
        refused_by x room why
        (four x room (limits_are t ns s o x is_checked) near_is (⊎_elim over within_most (lt_or_ge most_text n)) ∙ ap refused (planned_too_long a n (number_of why) e).0)
      where
        over : most_text < n → most_text < text_length_of x
        over l = omega arith

        within_most : n ≤ most_text → most_text < text_length_of x
        within_most few = rw (same_ascii, length_is few) at (planned_too_long a n (number_of why) e).1

    module _ (p : PaddingPlan) (fit : gives p ≡ planned a n) where
      few : n ≤ most_text
      few = omega (arith, (planned_fits a n p fit).1)

      plan_fits : Fits x p
      plan_fits = fits_by x p a n same_ascii (length_is few) fit

      short : text_length_of x ≤ most_text
      unfolding text_length_of version
      short = rw (same_ascii, length_is few) at (planned_fits a n p fit).1

      pub record_28 : length room < p.whole → WritesRecord x room (Err OutputRoom) room
      record_28 l =
          refused_by x room OutputRoom (twenty_eight x room (limits_are t ns s o x is_checked) near_is short (omega (arith, plan_fits.whole_is)))

      pub record_written : p.whole ≤ length room → (out : List ℕ) (q : ℕ)
          → ((x : Record) → printable t ns s o ≡ gives x → Emits (λ z. file_by (version_is p.version) p.text (print (header_layout x) (spaces p.spaces (10 ∷ z)))) room 0 out q)
          → WritesRecord x room (Ok (record { 0 = p.whole })) out
      record_written l out q w =
          let room_fits : header_length x ≤ length room = omega (arith, plan_fits.whole_is) in
          writing_all x room (limits_are t ns s o x is_checked) near_is short room_fits p.whole out plan_fits.whole_is
          (placed_whole x p plan_fits room room_fits out q (w x h))

-- ---- a caller's record
module _ (t ns s : List ℕ) (o : Order) (room : List ℕ) where
  header_by_lem : (x : Record) → checked_record t ns s o ≡ gives x → (w : Result Bytes Refusal) (out : List ℕ) → WritesRecord x room w out → WritesHeader t ns s o room w out
  unfolding header_written
  header_by_lem x e w out h = rw (header_written, e) h

  no_record : (why : Refusal) → checked_record t ns s o ≡ refused (number_of why) → WritesHeader t ns s o room (Err why) room
  unfolding header_written
  no_record why e = rw (header_written, e) (owes_refused (number_of why) room)

  -- what is not printed is not written
  pub header_refused : (why : Refusal) → printable t ns s o ≡ refused (number_of why) → WritesHeader t ns s o room (Err why) room
  header_refused why h = go (view t ns s o)
    where
      go : View t ns s o → WritesHeader t ns s o room (Err why) room
      go (unread m e p) = let z : m ≡ number_of why = cc in no_record why (rw z at e)
      go (too_deep_lem x e far p) =
          let z : 7 ≡ number_of why = cc in
          header_by_lem x e (Err why) room (refused_by x room why (seven x room (limits_are t ns s o x e) far ∙ ap refused z))
      go (shown x e near p) = absurd (let z : ◌≡◌ {A = ℕ} 0 1 = cc in omega arith)

  -- and what was printed to scratch room is measured
  pub header_measured : (bare : ℕ) → bare < 2 ^ 64 → (scratch mid : List ℕ) (r : Result ℕ Refusal) → r ≡ Ok bare → PrintsText (printable t ns s o) scratch 0 r mid → (w : Result Bytes Refusal) (out : List ℕ)
      → ((x : Record) → printable t ns s o ≡ gives x → bare ≡ capped (length (bare_text x)) → WritesRecord x room w out) → WritesHeader t ns s o room w out
  header_measured bare small scratch mid r z h w out k =
      let u = printed_end (printable t ns s o) scratch 0 bare mid (subst (λ (y : Result ℕ Refusal). PrintsText (printable t ns s o) scratch 0 y mid) z h) in
      header_by_lem u.0 (can_print t ns s o u.0 u.1).0 w out (k u.0 u.1 (omega (arith, u.2.after [])))
