-- The numbers of all refusals are from 1 to the last: along the composition of each definition, by one law for each way of composing outcomes. Those of reading a file are
-- record/proofs/Numbers.antt.
use Prim.Native.Nat.{ℕ, zero, suc, ◌+◌}
use mathlib.Core.Path.{refl}
use mathlib.Core.Bool.{Bool, true, false, not, ◌&&◌}
use mathlib.Core.List.{List, [], ◌∷◌}
use lib.Dec.{leb, ltb, eqb}
use lib.ListN.{length}
use Rattle.counts.specs.Outcome.{Outcome, gives, refused, then, each, unless}
use Rattle.counts.specs.Lists.{same}
use Rattle.utf8_scalar.specs.Scalar.{is_scalar, all_scalars}
use Rattle.type_letters.specs.Letters.{order_of, letter_of, is_unicode, is_bytes, is_raw}
use Rattle.type_letters.specs.declared.Endianness.{Endianness}
use Rattle.type_units.specs.Units.{units}
use Rattle.type_str.specs.declared.TypeStr.{TypeStr}
use Rattle.type_str.specs.Text.{is_type, type_text, type_printed}
use Rattle.dtype.specs.declared.Order.{Order}
use Rattle.dtype.specs.declared.Order.TheVariants.{C, Fortran}
use Rattle.dtype.specs.Dtype.{Dtype, Fields, plain, array, record_of, end_of_fields, field_then}
use Rattle.dtype.specs.Entries.{has_object}
use Rattle.dtype.specs.Shape.{product, in_range, item}
use Rattle.dtype.specs.Record.{Record, table, names, unflat, table_of}
use Rattle.dtype.specs.Limits.{over_dimensions, over_shape, limited}
use Rattle.dtype.specs.Places.{data_bytes, place, plain_at, plain_of}
use Rattle.shape.specs.Count.{item_count, strides_count}
use Rattle.literal_grammar.specs.Print.{value_of}
use Rattle.record.specs.Prefix.{Version, version_of, most_text, Prefix, prefix, text_held}
use Rattle.record.specs.Rooms.{needs, too_small, Lent, rooms_of}
use Rattle.record.specs.Header as header
use Rattle.record.specs.Layout.{header_layout}
use Rattle.record.specs.Within.{within}
use Rattle.record.specs.File.{text_length_of, file_of}
use Rattle.record.specs.Writing.{writing}
use Rattle.table_entry.specs.EntryType.{units_for, in_record, typed, type_of}
use Rattle.check_table.specs.Reading.{unread, read_dtype}
use Rattle.check_record.specs.Checked.{checked_record}
use Rattle.place_item.specs.Item.{item_of}
use Rattle.place.specs.Place.{run_from, placed, place_of}
use Rattle.number_bytes.specs.Numbers.{in_order}
use Rattle.string_value.specs.Elements.{trimmed, bytes_in, scalar, points, points_in}
use Rattle.string_value.specs.Runs.{zero_filled, bytes_out, point_bytes, points_out}
use Rattle.counts.specs.Owes.{roomed}
use Rattle.string_value.specs.Rooms.{read_bytes, read_points, write_bytes, write_points}
use Rattle.element.specs.Bytes.{run_bytes}
use Rattle.type_units.specs.declared.TimeUnits.{TimeUnits}
use Rattle.value_float.specs.Floats.{single_of, double_of}
use Rattle.value_float.specs.Half.{half_of}
use Rattle.value.specs.declared.Value.{Value}
use Rattle.value.specs.declared.Form.{Form}
use Rattle.value.specs.Values.{form_of, has_no_value, signed_in, single_pair, double_pair, value_by, read_value}
use Rattle.element.specs.Element.{element_bytes, element_points, element_value}
use Rattle.record.specs.Header.{after_prefix_by, held_by, text_by}
use Rattle.write.specs.Writes.{header_written}
use Rattle.list_text.specs.Listing.{listing}
use Rattle.list_record.specs.Answer.{listed}
use Rattle.npy_codes.specs.Codes.{order_for, type_for}
use Rattle.record.proofs.Numbers.{Number, Numbered, an_answer, a_number, cond_numbered, unless_numbered, then_numbered, each_numbered, limited_numbered, in_numbered, version_numbered, prefix_numbered, stored_numbered, part_numbered}

held_numbered : (longer : Bool) (p : Prefix) (file : List ℕ) → Numbered (text_held longer p file)
unfolding text_held
held_numbered true p file = part_numbered 23 p file (refl, refl)
held_numbered false p file = part_numbered 3 p file (refl, refl)

pub held_header_numbered : (reading : header.Reading) (longer : Bool) (file : List ℕ) (l : Lent) → Numbered (held_by reading longer file l)
held_header_numbered reading longer file l =
    then_numbered (prefix file) (λ p. after_prefix_by reading longer file p (rooms_of l)) (prefix_numbered file)
    (λ p. then_numbered (text_held longer p file) _ (held_numbered longer p file)
    (λ text. then_numbered (header.record_in reading text) (header.stored (rooms_of l) p) (in_numbered reading text) (stored_numbered (rooms_of l) p)))

pub text_numbered : (reading : header.Reading) (text : List ℕ) (l : Lent) → Numbered (text_by reading text l)
text_numbered reading text l =
    then_numbered (header.record_in reading text) _ (in_numbered reading text) (λ r. unless_numbered (too_small (rooms_of l) (needs r)) 23 (refl, refl) (an_answer r))

-- ---- a caller's record
pub for_numbered : (order : ℕ) → Numbered (order_for order)
for_numbered order = cond_numbered (eqb order 0) (an_answer C) (cond_numbered (eqb order 1) (an_answer Fortran) (a_number (refl, refl)))

pub version_for_numbered : (version : ℕ) → Numbered (version_of version 0)
version_for_numbered version = version_numbered version 0

in_record_numbered : {A : Type 0} (x : Outcome A) → Numbered (in_record x)
in_record_numbered (gives a) = an_answer a
in_record_numbered (refused n) = a_number (refl, refl)

pub type_for_numbered : (order letter size units : ℕ) → Numbered (type_for order letter size units)
unfolding type_of
type_for_numbered order letter size units =
    in_record_numbered
    (then (order_of order) (λ o. then (letter_of letter) (λ l. then (units_for units) (λ u. typed (record { order = o; letter = l; size = size; units = u })))))

table_numbered : (t ns : List ℕ) → Numbered (table_of t ns)
unfolding table_of
table_numbered t ns =
    let d = unflat (length t) t ns in
    cond_numbered (same t (table d) && same ns (names d)) (an_answer d) (a_number (refl, refl))

dtype_numbered : (t ns : List ℕ) → Numbered (read_dtype t ns)
unfolding read_dtype
dtype_numbered t ns = then_numbered (table_of t ns) (λ d. unless (unread d) 27 (gives d)) (table_numbered t ns) (λ d. unless_numbered (unread d) 27 (refl, refl) (an_answer d))

pub record_checked_numbered : (t ns s : List ℕ) (o : Order) → Numbered (checked_record t ns s o)
unfolding checked_record
record_checked_numbered t ns s o =
    then_numbered (read_dtype t ns) (λ d. limited (record { dtype = d; shape = s; order = o })) (dtype_numbered t ns)
    (λ d. limited_numbered (record { dtype = d; shape = s; order = o }))

roomed_numbered : (n : ℕ) (room content : List ℕ) → Number n → Numbered (roomed n room content)
unfolding roomed
roomed_numbered n room content h = unless_numbered (ltb (length room) (length content)) n h (an_answer content)

writing_numbered : (r : Record) (room : List ℕ) → Numbered (writing r room)
unfolding writing
writing_numbered r room =
    then_numbered (limited r) _ (limited_numbered r)
    (λ q. unless_numbered (not (within (value_of (header_layout r)) 32)) 7 (refl, refl)
    (unless_numbered (ltb most_text (text_length_of r)) 4 (refl, refl) (roomed_numbered 28 room (file_of r) (refl, refl))))

pub header_written_numbered : (t ns s : List ℕ) (o : Order) (room : List ℕ) → Numbered (header_written t ns s o room)
unfolding header_written
header_written_numbered t ns s o room = then_numbered (checked_record t ns s o) (λ r. writing r room) (record_checked_numbered t ns s o) (λ r. writing_numbered r room)

pub listed_numbered : (v : Version) (start : ℕ) (t ns s : List ℕ) (o : Order) (room : List ℕ) → Numbered (listed v start t ns s o room)
listed_numbered v start t ns s o room = then_numbered (checked_record t ns s o) _ (record_checked_numbered t ns s o) (λ r. roomed_numbered 28 room (listing v start r []) (refl, refl))

pub type_printed_numbered : (t : TypeStr) (room : List ℕ) → Numbered (type_printed t room)
unfolding type_printed
type_printed_numbered t room = unless_numbered (not (is_type t)) 27 (refl, refl) (roomed_numbered 28 room (type_text t []) (refl, refl))

-- ---- shapes and places
pub count_numbered : (o : Order) (s : List ℕ) → Numbered (item_count o s)
unfolding item_count
count_numbered o s = unless_numbered (over_shape o s) 22 (refl, refl) (an_answer (product s))

pub strides_numbered : (o : Order) (s : List ℕ) (room : ℕ) → Numbered (strides_count o s room)
unfolding strides_count
strides_numbered o s room = unless_numbered (over_shape o s) 22 (refl, refl) (unless_numbered (ltb room (length s)) 23 (refl, refl) (an_answer (product s)))

pub item_numbered : (o : Order) (s x : List ℕ) → Numbered (item_of o s x)
unfolding item_of
item_numbered o s x =
    unless_numbered (over_dimensions s) 13 (refl, refl)
    (unless_numbered (over_shape o s) 22 (refl, refl) (unless_numbered (not (in_range s x)) 26 (refl, refl) (an_answer (item o s x))))

mutual
  plain_numbered : (d : Dtype) (p : List ℕ) → Numbered (plain_at d p)
  plain_numbered (plain t) [] = an_answer t
  plain_numbered (plain t) (i ∷ p) = a_number (refl, refl)
  plain_numbered (array n d) [] = a_number (refl, refl)
  plain_numbered (array n d) (i ∷ p) = unless_numbered (leb n i) 26 (refl, refl) (plain_numbered d p)
  plain_numbered (record_of fs) [] = a_number (refl, refl)
  plain_numbered (record_of fs) (i ∷ p) = plain_of_numbered fs i p

  plain_of_numbered : (fs : Fields) (i : ℕ) (p : List ℕ) → Numbered (plain_of fs i p)
  plain_of_numbered end_of_fields i p = a_number (refl, refl)
  plain_of_numbered (field_then name d fs) zero p = plain_numbered d p
  plain_of_numbered (field_then name d fs) (suc i) p = plain_of_numbered fs i p

pub place_numbered : (file start : ℕ) (t ns s : List ℕ) (o : Order) (x p : List ℕ) → Numbered (place_of file start t ns s o x p)
unfolding place_of placed
place_numbered file start t ns s o x p =
    then_numbered (checked_record t ns s o) (λ r. placed file start r x p) (record_checked_numbered t ns s o)
    (λ r. unless_numbered (has_object r.dtype) 24 (refl, refl)
    (unless_numbered (ltb file (start + data_bytes r)) 25 (refl, refl)
    (unless_numbered (not (in_range r.shape x)) 26 (refl, refl)
    (each_numbered (λ t. run_from (place start r x p) t) (plain_at r.dtype p) (plain_numbered r.dtype p)))))

-- ---- elements
scalar_numbered : (c : ℕ) → Numbered (scalar c)
unfolding scalar
scalar_numbered c = unless_numbered (not (is_scalar c)) 29 (refl, refl) (an_answer c)

points_numbered : (order : Endianness) (run : List ℕ) → Numbered (points order run)
points_numbered order [] = an_answer []
points_numbered order (a ∷ []) = a_number (refl, refl)
points_numbered order (a ∷ b ∷ []) = a_number (refl, refl)
points_numbered order (a ∷ b ∷ c ∷ []) = a_number (refl, refl)
points_numbered order (a ∷ b ∷ c ∷ d ∷ run) =
    let first = in_order order (a ∷ b ∷ c ∷ d ∷ []) in
    then_numbered (scalar first) (λ p. each (λ ps. p ∷ ps) (points order run)) (scalar_numbered first)
    (λ p. each_numbered (λ ps. p ∷ ps) (points order run) (points_numbered order run))

bytes_in_numbered : (t : TypeStr) (run : List ℕ) → Numbered (bytes_in t run)
unfolding bytes_in
bytes_in_numbered t run = cond_numbered (is_bytes t.letter) (an_answer (trimmed run)) (cond_numbered (is_raw t.letter) (an_answer run) (a_number (refl, refl)))

points_in_numbered : (t : TypeStr) (run : List ℕ) → Numbered (points_in t run)
unfolding points_in
points_in_numbered t run = unless_numbered (not (is_unicode t.letter)) 26 (refl, refl) (each_numbered trimmed (points t.order run) (points_numbered t.order run))

bytes_out_numbered : (t : TypeStr) (value : List ℕ) → Numbered (bytes_out t value)
unfolding bytes_out
bytes_out_numbered t value =
    cond_numbered (is_bytes t.letter) (unless_numbered (ltb t.size (length value)) 30 (refl, refl) (an_answer (zero_filled t.size value)))
    (cond_numbered (is_raw t.letter) (unless_numbered (not (eqb t.size (length value))) 30 (refl, refl) (an_answer value)) (a_number (refl, refl)))

points_out_numbered : (t : TypeStr) (value : List ℕ) → Numbered (points_out t value)
unfolding points_out
points_out_numbered t value =
    unless_numbered (not (is_unicode t.letter)) 26 (refl, refl)
    (unless_numbered (not (all_scalars value)) 29 (refl, refl)
    (unless_numbered (ltb t.size (length value)) 30 (refl, refl) (an_answer (point_bytes t.order (zero_filled t.size value) []))))

pub read_bytes_numbered : (t : TypeStr) (run room : List ℕ) → Numbered (read_bytes t run room)
unfolding read_bytes
read_bytes_numbered t run room =
    unless_numbered (not (is_type t)) 27 (refl, refl)
    (then_numbered (bytes_in t run) (roomed 23 room) (bytes_in_numbered t run) (λ c. roomed_numbered 23 room c (refl, refl)))

pub read_points_numbered : (t : TypeStr) (run room : List ℕ) → Numbered (read_points t run room)
unfolding read_points
read_points_numbered t run room =
    unless_numbered (not (is_type t)) 27 (refl, refl)
    (then_numbered (points_in t run) (roomed 23 room) (points_in_numbered t run) (λ c. roomed_numbered 23 room c (refl, refl)))

pub write_bytes_numbered : (t : TypeStr) (value room : List ℕ) → Numbered (write_bytes t value room)
unfolding write_bytes
write_bytes_numbered t value room =
    unless_numbered (not (is_type t)) 27 (refl, refl)
    (then_numbered (bytes_out t value) (roomed 28 room) (bytes_out_numbered t value) (λ c. roomed_numbered 28 room c (refl, refl)))

pub write_points_numbered : (t : TypeStr) (value room : List ℕ) → Numbered (write_points t value room)
unfolding write_points
write_points_numbered t value room =
    unless_numbered (not (is_type t)) 27 (refl, refl)
    (then_numbered (points_out t value) (roomed 28 room) (points_out_numbered t value) (λ c. roomed_numbered 28 room c (refl, refl)))

pub element_bytes_numbered : (file : List ℕ) (start : ℕ) (t ns s : List ℕ) (o : Order) (x p room : List ℕ) → Numbered (element_bytes file start t ns s o x p room)
unfolding element_bytes
element_bytes_numbered file start t ns s o x p room =
    then_numbered (place_of (length file) start t ns s o x p) _ (place_numbered (length file) start t ns s o x p) (λ u. read_bytes_numbered u.kind (run_bytes file u) room)

pub element_points_numbered : (file : List ℕ) (start : ℕ) (t ns s : List ℕ) (o : Order) (x p room : List ℕ) → Numbered (element_points file start t ns s o x p room)
unfolding element_points
element_points_numbered file start t ns s o x p room =
    then_numbered (place_of (length file) start t ns s o x p) _ (place_numbered (length file) start t ns s o x p) (λ u. read_points_numbered u.kind (run_bytes file u) room)

-- ---- of a value
value_by_numbered : (f : Form) (o : Endianness) (u : TimeUnits) (run : List ℕ) → Numbered (value_by f o u run)
unfolding value_by
value_by_numbered Form.Bool o u run = unless_numbered (ltb 1 (in_order o run)) 32 (refl, refl) (an_answer (Value.Bool (eqb (in_order o run) 1)))
value_by_numbered Form.Signed o u run = an_answer (Value.Signed (signed_in o run))
value_by_numbered Form.Unsigned o u run = an_answer (Value.Unsigned (in_order o run))
value_by_numbered Form.Half o u run = an_answer (Value.Single (half_of (in_order o run)))
value_by_numbered Form.Single o u run = an_answer (Value.Single (single_of (in_order o run)))
value_by_numbered Form.Double o u run = an_answer (Value.Double (double_of (in_order o run)))
value_by_numbered Form.SinglePair o u run = an_answer (single_pair o run)
value_by_numbered Form.DoublePair o u run = an_answer (double_pair o run)
value_by_numbered Form.Time o u run = an_answer (Value.Time (signed_in o run) u)
value_by_numbered Form.NoValue o u run = a_number (refl, refl)

pub read_value_numbered : (t : TypeStr) (run : List ℕ) → Numbered (read_value t run)
unfolding read_value
read_value_numbered t run =
    unless_numbered (not (is_type t)) 27 (refl, refl)
    (unless_numbered (has_no_value (form_of t.letter t.size)) 31 (refl, refl)
    (unless_numbered (not (eqb (length run) t.size)) 27 (refl, refl) (value_by_numbered (form_of t.letter t.size) t.order t.units run)))

pub element_value_numbered : (file : List ℕ) (start : ℕ) (t ns s : List ℕ) (o : Order) (x p : List ℕ) → Numbered (element_value file start t ns s o x p)
unfolding element_value
element_value_numbered file start t ns s o x p =
    then_numbered (place_of (length file) start t ns s o x p) _ (place_numbered (length file) start t ns s o x p) (λ u. read_value_numbered u.kind (run_bytes file u))
