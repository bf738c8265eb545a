-- THE NUMBERS OF A READING'S REFUSALS ARE FROM 1 TO `last_number`: along the composition of each definition, by one law for each way of composing outcomes.
use Prim.Native.Nat.{ℕ, zero, suc, ◌^◌}
use mathlib.Core.Path.{◌≡◌, refl}
use mathlib.Core.Bool.{Bool, true, false, cond, not, ◌&&◌, ◌||◌}
use mathlib.Core.List.{List, [], ◌∷◌}
use Rattle.std.specs.Prelude.{Option, Some}
use lib.Dec.{leb, ltb, eqb}
use lib.ListN.{length, get_or, take, drop}
use Rattle.counts.specs.Outcome.{Outcome, gives, refused, then, each, unless}
use Rattle.counts.specs.Lists.{same}
use Rattle.refusal.specs.Numbers.{last_number}
use Rattle.utf8.specs.Decode.{unless_ill, first_ill, utf8}
use Rattle.decimal.specs.Decimal.{digits_of, after_digits, decimal}
use Rattle.type_letters.specs.Letters.{orders, order_byte, order_of, letters, letter_byte, letter_of, first_of}
use Rattle.type_letters.specs.declared.Endianness.{Endianness}
use Rattle.type_letters.specs.declared.TypeChar.{TypeChar}
use Rattle.type_units.specs.Units.{units, unit_text, units_of}
use Rattle.type_str.specs.Rules.{allows}
use Rattle.type_str.specs.declared.TypeStr.{TypeStr}
use Rattle.type_str.specs.TypeString.{size_allowed, sized, sized_by, syntax, lacks_order, misplaces_units, validated, checked, type_string}
use Rattle.dtype.specs.declared.Order.TheVariants.{C, Fortran}
use Rattle.dtype.specs.Dtype.{plain, record_of, end_of_fields, field_then}
use Rattle.dtype.specs.Record.{Record}
use Rattle.dtype.specs.Limits.{over, over_dimensions, over_levels, over_entries, over_size, over_shape, limited}
use Rattle.literal_grammar.specs.Value.{Value, Values, Items, string, integer, True, False, None, list, tuple, dict, end_of_values, value_then, end_of_items, item_then}
use Rattle.literal_grammar.specs.Promise.{Got, got, fault, deep}
use Rattle.number_bytes.specs.Numbers.{little}
use Rattle.record.specs.Parts.{string_or, members_or, items_or}
use Rattle.record.specs.Dict.{is_the, all_strings, last_of, needed, key_order, key_shape, key_descr}
use Rattle.record.specs.Dimensions.{signed, dimension, dimensions, sub_shape, ranked, shape_of}
use Rattle.record.specs.Descr.{arrays, two_or_three, perhaps, descr_of, fields_of, field_of, named_of, typed_of}
use Rattle.record.specs.FromValue.{declared_order, record_from, record_of_value}
use Rattle.record.specs.Prefix.{Version, one_zero, two_zero, three_zero, version_of, length_width, text_start, magic, most_text, Prefix, data_start_of, length_read, prefix}
use Rattle.record.specs.Rooms.{Rooms, needs, too_small}
use Rattle.record.specs.Header.{Reading, value_read, record_in, stored}

-- one of the numbers
abbrev pub Number : ℕ → Type 0
Number n = (leb 1 n ≡ true) × (leb n last_number ≡ true)

abbrev pub NumberedBy : {A : Type 0} → Outcome A → Type 0
NumberedBy (gives a) = Unit {0}
NumberedBy (refused n) = Number n

pub record Numbered {A : Type 0} (o : Outcome A) : Type 0 where
  pub so : NumberedBy o

-- ---- the ways of composing
module _ {A : Type 0} where
  pub an_answer : (a : A) → Numbered (gives a)
  an_answer a = record { so = tt }

  pub a_number : {n : ℕ} → Number n → Numbered {A = A} (refused n)
  a_number h = record { so = h }

  pub cond_numbered : (b : Bool) {x y : Outcome A} → Numbered x → Numbered y → Numbered (cond b x y)
  cond_numbered true h k = h
  cond_numbered false h k = k

  pub unless_numbered : (b : Bool) (n : ℕ) {x : Outcome A} → Number n → Numbered x → Numbered (unless b n x)
  unless_numbered true n e h = a_number e
  unless_numbered false n e h = h

module _ {A B : Type 0} where
  pub then_numbered : (x : Outcome A) (f : A → Outcome B) → Numbered x → ((a : A) → Numbered (f a)) → Numbered (then x f)
  then_numbered (gives a) f h k = k a
  then_numbered (refused n) f h k = a_number h.so

  pub each_numbered : (f : A → B) (x : Outcome A) → Numbered x → Numbered (each f x)
  each_numbered f (gives a) h = an_answer (f a)
  each_numbered f (refused n) h = a_number h.so

-- ---- type strings
first_numbered : {A : Type 0} (test : A → Bool) (xs : List A) → Numbered (first_of test xs)
first_numbered test [] = a_number (refl, refl)
first_numbered test (a ∷ more) = cond_numbered (test a) (an_answer a) (first_numbered test more)

byte_order_numbered : (b : ℕ) → Numbered (order_of b)
unfolding order_of
byte_order_numbered b = first_numbered (λ o. eqb b (order_byte o)) orders

letter_numbered : (b : ℕ) → Numbered (letter_of b)
unfolding letter_of
letter_numbered b = first_numbered (λ l. eqb b (letter_byte l)) letters

units_numbered : (text : List ℕ) → Numbered (units_of text)
unfolding units_of
units_numbered text = first_numbered (λ u. same text (unit_text u [])) units

sized_numbered : (o : Endianness) (l : TypeChar) (digits rest : List ℕ) → Numbered (sized o l digits rest)
unfolding sized
sized_numbered o l digits rest =
    unless_numbered (not (size_allowed l digits)) 15 (refl, refl)
    (each_numbered (λ units. record { order = o; letter = l; size = decimal digits; units = units }) (units_of rest) (units_numbered rest))

syntax_numbered : (text : List ℕ) → Numbered (syntax text)
unfolding syntax
syntax_numbered [] = a_number (refl, refl)
syntax_numbered (o ∷ []) = a_number (refl, refl)
syntax_numbered (o ∷ l ∷ s) =
    then_numbered (order_of o) (λ a. then (letter_of l) (λ b. sized_by a b s)) (byte_order_numbered o)
    (λ a. then_numbered (letter_of l) (λ b. sized_by a b s) (letter_numbered l) (λ b. sized_numbered a b (digits_of s) (after_digits s)))

checked_numbered : (t : TypeStr) → Numbered (checked t)
unfolding checked validated
checked_numbered t =
    unless_numbered (leb (2 ^ 64) t.size) 16 (refl, refl)
    (unless_numbered (lacks_order t) 17 (refl, refl)
    (unless_numbered (not (allows t.letter t.size)) 18 (refl, refl) (unless_numbered (misplaces_units t) 19 (refl, refl) (an_answer t))))

pub type_numbered : (text : List ℕ) → Numbered (type_string text)
unfolding type_string
type_numbered text = then_numbered (syntax text) checked (syntax_numbered text) checked_numbered

-- ---- the record of a value
string_numbered : (n : ℕ) (v : Value) → Number n → Numbered (string_or n v)
string_numbered n (string w) h = an_answer w
string_numbered n (integer minus i) h = a_number h
string_numbered n True h = a_number h
string_numbered n False h = a_number h
string_numbered n None h = a_number h
string_numbered n (list vs) h = a_number h
string_numbered n (tuple vs) h = a_number h
string_numbered n (dict es) h = a_number h

members_numbered : (n : ℕ) (v : Value) → Number n → Numbered (members_or n v)
members_numbered n (string w) h = a_number h
members_numbered n (integer minus i) h = a_number h
members_numbered n True h = a_number h
members_numbered n False h = a_number h
members_numbered n None h = a_number h
members_numbered n (list vs) h = an_answer vs
members_numbered n (tuple vs) h = an_answer vs
members_numbered n (dict es) h = a_number h

items_numbered : (n : ℕ) (v : Value) → Number n → Numbered (items_or n v)
items_numbered n (string w) h = a_number h
items_numbered n (integer minus i) h = a_number h
items_numbered n True h = a_number h
items_numbered n False h = a_number h
items_numbered n None h = a_number h
items_numbered n (list vs) h = a_number h
items_numbered n (tuple vs) h = a_number h
items_numbered n (dict es) h = an_answer es

last_numbered : (w : List ℕ) (was : Outcome Value) (es : Items) → Numbered was → Numbered (last_of w was es)
last_numbered w was end_of_items h = h
last_numbered w was (item_then key v es) h =
    last_numbered w (cond (is_the w (string_or 8 key)) (gives v) was) es (cond_numbered (is_the w (string_or 8 key)) (an_answer v) h)

needed_numbered : (w : List ℕ) (es : Items) → Numbered (needed w es)
needed_numbered w es = last_numbered w (refused 9) es (a_number (refl, refl))

signed_numbered : (minus : Bool) (n : ℕ) → Numbered (signed minus n)
signed_numbered true zero = an_answer 0
signed_numbered true (suc n) = a_number (refl, refl)
signed_numbered false n = unless_numbered (over n) 12 (refl, refl) (an_answer n)

dimension_numbered : (v : Value) → Numbered (dimension v)
dimension_numbered (string w) = a_number (refl, refl)
dimension_numbered (integer minus n) = signed_numbered minus n
dimension_numbered True = a_number (refl, refl)
dimension_numbered False = a_number (refl, refl)
dimension_numbered None = a_number (refl, refl)
dimension_numbered (list vs) = a_number (refl, refl)
dimension_numbered (tuple vs) = a_number (refl, refl)
dimension_numbered (dict es) = a_number (refl, refl)

dimensions_numbered : (vs : Values) → Numbered (dimensions vs)
dimensions_numbered end_of_values = an_answer []
dimensions_numbered (value_then v vs) =
    then_numbered (dimension v) (λ n. each (λ ns. n ∷ ns) (dimensions vs)) (dimension_numbered v)
    (λ n. each_numbered (λ ns. n ∷ ns) (dimensions vs) (dimensions_numbered vs))

sub_shape_numbered : (v : Value) → Numbered (sub_shape v)
sub_shape_numbered v = then_numbered (members_or 11 v) dimensions (members_numbered 11 v (refl, refl)) dimensions_numbered

shape_numbered : (v : Value) → Numbered (shape_of v)
shape_numbered v = then_numbered (sub_shape v) ranked (sub_shape_numbered v) (λ s. unless_numbered (over_dimensions s) 13 (refl, refl) (an_answer s))

perhaps_numbered : (vs : Values) → Numbered (perhaps vs)
perhaps_numbered end_of_values = an_answer []
perhaps_numbered (value_then v vs) = sub_shape_numbered v

mutual
  descr_numbered : (v : Value) → Numbered (descr_of v)
  descr_numbered (string w) = each_numbered plain (type_string w) (type_numbered w)
  descr_numbered (integer minus n) = a_number (refl, refl)
  descr_numbered True = a_number (refl, refl)
  descr_numbered False = a_number (refl, refl)
  descr_numbered None = a_number (refl, refl)
  descr_numbered (list vs) = each_numbered record_of (fields_of vs) (fields_numbered vs)
  descr_numbered (tuple vs) = a_number (refl, refl)
  descr_numbered (dict es) = a_number (refl, refl)

  fields_numbered : (vs : Values) → Numbered (fields_of vs)
  fields_numbered end_of_values = an_answer end_of_fields
  fields_numbered (value_then v vs) =
      then_numbered (field_of v) (λ f. each (field_then f.name f.type) (fields_of vs)) (field_numbered v)
      (λ f. each_numbered (field_then f.name f.type) (fields_of vs) (fields_numbered vs))

  field_numbered : (v : Value) → Numbered (field_of v)
  field_numbered (string w) = a_number (refl, refl)
  field_numbered (integer minus n) = a_number (refl, refl)
  field_numbered True = a_number (refl, refl)
  field_numbered False = a_number (refl, refl)
  field_numbered None = a_number (refl, refl)
  field_numbered (list vs) = unless_numbered (not (two_or_three vs)) 14 (refl, refl) (named_numbered vs)
  field_numbered (tuple vs) = unless_numbered (not (two_or_three vs)) 14 (refl, refl) (named_numbered vs)
  field_numbered (dict es) = a_number (refl, refl)

  named_numbered : (vs : Values) → Numbered (named_of vs)
  named_numbered end_of_values = a_number (refl, refl)
  named_numbered (value_then v vs) =
      then_numbered (string_or 14 v) (λ w. each (λ d. record { name = w; type = d }) (typed_of vs)) (string_numbered 14 v (refl, refl))
      (λ w. each_numbered (λ d. record { name = w; type = d }) (typed_of vs) (typed_numbered vs))

  typed_numbered : (vs : Values) → Numbered (typed_of vs)
  typed_numbered end_of_values = a_number (refl, refl)
  typed_numbered (value_then v vs) =
      then_numbered (descr_of v) (λ d. each (λ ns. arrays ns d) (perhaps vs)) (descr_numbered v)
      (λ d. each_numbered (λ ns. arrays ns d) (perhaps vs) (perhaps_numbered vs))

order_numbered : (v : Value) → Numbered (declared_order v)
order_numbered (string w) = a_number (refl, refl)
order_numbered (integer minus n) = a_number (refl, refl)
order_numbered True = an_answer Fortran
order_numbered False = an_answer C
order_numbered None = a_number (refl, refl)
order_numbered (list vs) = a_number (refl, refl)
order_numbered (tuple vs) = a_number (refl, refl)
order_numbered (dict es) = a_number (refl, refl)

pub limited_numbered : (r : Record) → Numbered (limited r)
unfolding limited
limited_numbered r =
    unless_numbered (over_dimensions r.shape || over_levels r.dtype) 13 (refl, refl)
    (unless_numbered (over_entries r.dtype) 20 (refl, refl)
    (unless_numbered (over_size r.dtype) 21 (refl, refl) (unless_numbered (over_shape r.order r.shape) 22 (refl, refl) (an_answer r))))

from_numbered : (es : Items) → Numbered (record_from es)
unfolding record_from
from_numbered es =
    then_numbered (then (needed key_order es) declared_order) _ (then_numbered (needed key_order es) declared_order (needed_numbered key_order es) order_numbered)
    (λ o. then_numbered (then (needed key_shape es) shape_of) _ (then_numbered (needed key_shape es) shape_of (needed_numbered key_shape es) shape_numbered)
    (λ s. then_numbered (then (needed key_descr es) descr_of) _ (then_numbered (needed key_descr es) descr_of (needed_numbered key_descr es) descr_numbered) (λ d. limited_numbered (record { dtype = d; shape = s; order = o }))))

record_numbered : (v : Value) → Numbered (record_of_value v)
unfolding record_of_value
record_numbered v = then_numbered (items_or 8 v) _ (items_numbered 8 v (refl, refl)) (λ es. unless_numbered (not (all_strings es)) 8 (refl, refl) (from_numbered es))

-- ---- a text and a file
ill_numbered : (at : Option ℕ) → Numbered (unless_ill at)
ill_numbered Option.None = an_answer tt
ill_numbered (Some at) = a_number (refl, refl)

value_numbered : (g : Got ℕ Value) → Numbered (value_read g)
value_numbered (got v p) = an_answer v
value_numbered (fault p) = a_number (refl, refl)
value_numbered (deep p) = a_number (refl, refl)

pub in_numbered : (reading : Reading) (text : List ℕ) → Numbered (record_in reading text)
unfolding record_in
in_numbered reading text =
    then_numbered (utf8 text) _ (ill_numbered (first_ill text))
    (λ u. then_numbered (value_read (reading text)) record_of_value (value_numbered (reading text)) record_numbered)

pub version_numbered : (a b : ℕ) → Numbered (version_of a b)
version_numbered a b =
    cond_numbered (eqb a 1 && eqb b 0) (an_answer one_zero)
    (cond_numbered (eqb a 2 && eqb b 0) (an_answer two_zero) (cond_numbered (eqb a 3 && eqb b 0) (an_answer three_zero) (a_number (refl, refl))))

length_numbered : (v : Version) (file : List ℕ) → Numbered (length_read v file)
length_numbered v file =
    let n = little (take (length_width v) (drop 8 file)) in
    unless_numbered (ltb (length file) (text_start v)) 3 (refl, refl)
    (unless_numbered (ltb most_text n) 4 (refl, refl) (an_answer (record { version = v; text_length = n })))

pub prefix_numbered : (file : List ℕ) → Numbered (prefix file)
unfolding prefix
prefix_numbered file =
    unless_numbered (ltb (length file) 8 || not (same (take 6 file) magic)) 1 (refl, refl)
    (then_numbered (version_of (get_or file 6 0) (get_or file 7 0)) (λ v. length_read v file) (version_numbered (get_or file 6 0) (get_or file 7 0)) (λ v. length_numbered v file))

pub stored_numbered : (rooms : Rooms) (p : Prefix) (r : Record) → Numbered (stored rooms p r)
unfolding stored
stored_numbered rooms p r =
    unless_numbered (too_small rooms (needs r)) 23 (refl, refl) (an_answer (record { version = p.version; says = r; data_start = data_start_of p }))

-- the text, or the number of one that is missing
pub part_numbered : (n : ℕ) (p : Prefix) (file : List ℕ) → Number n
    → Numbered (unless (ltb (length file) (data_start_of p)) n (gives (take p.text_length (drop (text_start p.version) file))))
part_numbered n p file h = unless_numbered (ltb (length file) (data_start_of p)) n h (an_answer (take p.text_length (drop (text_start p.version) file)))
