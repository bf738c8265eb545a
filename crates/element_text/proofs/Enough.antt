-- HOW LONG A LINE IS: at most four bytes for each byte of the element, and 64 more. So a room of that length is enough for the line of every element, and none is refused with 28.
use Rattle.refusal.specs.declared.Refusal.{Refusal}
use Rattle.std.specs.Prelude.{Ok, Result}
use Prim.Native.Nat.{ℕ, zero, suc, ◌+◌, ◌*◌, ◌-◌, ◌/◌, ◌%◌, ◌^◌, ◌<◌, ◌≤◌}
use native.Mathlib.Omega.{arith}
use mathlib.Core.Path.{◌≡◌, refl, sym, ap, ◌∙◌}
use mathlib.Core.Logic.{⊎_elim}
use mathlib.Core.Bool.{Bool as Truth, true, false, cond, not, ◌&&◌, ◌||◌}
use mathlib.Core.List.{List, [], ◌∷◌, ◌++◌}
use lib.Dec.{eqb, ltb, leb}
use lib.IntN.{pos, negsuc}
use lib.ListN.{length, take, drop, length-append}
use borrow.Author.Tests.{leb-false}
use Rattle.counts.specs.Lists.{at_front, AllBytes}
use Rattle.counts.specs.Outcome.{Outcome, gives, refused, then, each, afterwards}
use Rattle.counts.specs.Owes.{roomed}
use Rattle.counts.specs.declared.Bytes.{Bytes}
use Rattle.counts.proofs.Apart.{gives_apart, gives_refused}
use Rattle.counts.proofs.Holds.{Holds, each_holds, unless_holds, then_any}
use Rattle.counts.proofs.Owes.{roomed_whole}
use Rattle.counts.proofs.Sides.{lt_or_ge}
use Rattle.refusal.specs.Answers.{bytes_answer}
use Rattle.decimal.specs.Decimal.{printed}
use Rattle.decimal.proofs.Prints.{printed_low, printed_high}
use Rattle.decimal.proofs.Lengths.{printed_length}
use Rattle.number_bytes.specs.Numbers.{in_order}
use Rattle.number_bytes.proofs.Widths.{in_below}
use Rattle.type_letters.specs.declared.Endianness.{Endianness}
use Rattle.type_units.specs.Units.{unit_name}
use Rattle.type_units.specs.declared.TimeUnits.{TimeUnits}
use Rattle.type_units.specs.declared.TimeUnits.TheVariants.{Absent, Year, Month, Week, Day, Hour, Minute, Second, Millisecond, Microsecond, Nanosecond, Picosecond, Femtosecond, Attosecond}
use Rattle.type_str.specs.Text.{is_type}
use Rattle.type_str.specs.declared.TypeStr.{TypeStr}
use Rattle.type_letters.specs.Letters.{is_unicode, is_bytes, is_raw}
use Rattle.utf8_scalar.specs.Encode.{encode}
use Rattle.string_value.specs.Elements.{trimmed, scalar, points, bytes_in, points_in}
use Rattle.string_value.proofs.Trims.{trim_length}
use Rattle.value.specs.declared.Value.{Value}
use Rattle.value.specs.declared.Form.{Form}
use Rattle.value_float.specs.Floats.{single_of, double_of}
use Rattle.value_float.specs.Half.{half_of}
use Rattle.value_float.specs.declared.Single.{Single}
use Rattle.value_float.specs.declared.Double.{Double}
use Rattle.value.specs.Values.{form_of, has_no_value, most_of, signed_by, bool_of, value_by, read_value}
use Rattle.element_text.specs.Hexadecimal.{hex_digit, hex_digits}
use Rattle.element_text.specs.Floats.{single_format, double_format, float_parts, exponent_text, shown_exponent, finite_text, special_text, unsigned_text, parts_text, float_text}
use Rattle.element_text.specs.Text.{truth_text, signed_text, value_text, all_text, byte_text, point_text, bytes_text, points_text, raw_text, lined, line_in, element_text}
use Rattle.element_text.specs.declared.Parts.{Parts}
use Rattle.element_text.specs.Puts.{PutsElement}
use Rattle.element_text.proofs.Strings.{encode_few}

-- how many bytes are enough for the line of an element of so many
abbrev pub line_room : (bytes : ℕ) → ℕ
line_room n = 4 * n + 64

-- no line is longer
abbrev pub LineFits : Type 0
LineFits = (t : TypeStr) (run : List ℕ) → AllBytes run → Holds (λ text. length text ≤ line_room (length run)) (element_text t run)

-- ---- one of two texts
either : (b : Truth) (x y : List ℕ) (n : ℕ) → length x ≤ n → length y ≤ n → length (cond b x y) ≤ n
either true x y n h k = h
either false x y n h k = k

-- ---- numbers
hex_length : (k n : ℕ) (x : List ℕ) → length (hex_digits k n x) ≡ k + length x
unfolding hex_digits
hex_length zero n x = omega arith
hex_length (suc k) n x = omega (arith, hex_length k (n / 16) (hex_digit (n % 16) ∷ x))

-- the digits of a number of so many bytes: at most three a byte
one_more : (n d : ℕ) → ((x : List ℕ) → length (printed (n / 10) x) ≤ d + length x) → (x : List ℕ) → length (printed n x) ≤ 1 + d + length x
one_more n d h x = ⊎_elim (λ l. rw (printed_low n x l) (omega arith)) (λ g. rw (printed_high n x g) (omega (arith, h ((48 + n % 10) ∷ x)))) (lt_or_ge n 10)

number_length : (k n : ℕ) (x : List ℕ) → n < 256 ^ k → length (printed n x) ≤ 3 * k + 1 + length x
number_length zero n x lt = rw (printed_low n x (omega (arith, lt))) (omega arith)
number_length (suc k) n x lt =
    let below : n < 256 * 256 ^ k = omega (arith, lt) in
    omega (
      arith,
      one_more n (1 + (1 + (3 * k + 1))) (one_more (n / 10) (1 + (3 * k + 1)) (one_more (n / 10 / 10) (3 * k + 1) (λ y. number_length k (n / 10 / 10 / 10) y (omega (arith, below))))) x,
    )

signed_length : (k n : ℕ) (x : List ℕ) → n < 256 ^ k → length (signed_text (signed_by (most_of k) n) x) ≤ 3 * k + 2 + length x
unfolding signed_by
signed_length k n x lt = go (leb n (most_of k / 2)) refl
  where
    go : (b : Truth) → leb n (most_of k / 2) ≡ b → length (signed_text (cond b (pos n) (negsuc (most_of k - n))) x) ≤ 3 * k + 2 + length x
    go true e = omega (arith, number_length k n x lt)
    go false e = omega (arith, number_length k (suc (most_of k - n)) x (omega (arith, lt, leb-false n (most_of k / 2) e)))

-- ---- floats
exponent_length : (bias e : ℕ) (x : List ℕ) → bias < 10000 → e < 10000 → length (exponent_text bias e x) ≤ 5 + length x
exponent_length bias e x h k =
    either (leb bias e) (43 ∷ printed (e - bias) x) (45 ∷ printed (bias - e) x) (5 + length x) (omega (arith, printed_length 3 (e - bias) x (omega arith)))
    (omega (arith, printed_length 3 (bias - e) x (omega arith)))

shown_small : (p : Parts) → p.exponent < 10000 → p.bias < 10000 → shown_exponent p < 10000
shown_small p h k = go (eqb p.exponent 0) (eqb p.fraction 0)
  where
    go : (a b : Truth) → cond a (cond b p.bias 1) p.exponent < 10000
    go true true = k
    go true false = omega arith
    go false b = h

module _ (p : Parts) (x : List ℕ) (d : p.digits ≤ 13) (h : p.exponent < 10000) (k : p.bias < 10000) where
  finite_length : length (finite_text p x) ≤ 24 + length x
  finite_length =
      omega (
        arith,
        d,
        hex_length p.digits p.filled (112 ∷ exponent_text p.bias (shown_exponent p) x),
        exponent_length p.bias (shown_exponent p) x k (shown_small p h k),
      )

  special_length : length (special_text p x) ≤ 24 + length x
  special_length =
      either (eqb p.fraction 0) (105 ∷ 110 ∷ 102 ∷ x) (110 ∷ 97 ∷ 110 ∷ 40 ∷ 48 ∷ 120 ∷ hex_digits p.digits p.fraction (41 ∷ x)) (24 + length x) (omega arith)
      (omega (arith, d, hex_length p.digits p.fraction (41 ∷ x)))

  parts_length : length (parts_text p x) ≤ 25 + length x
  unfolding parts_text
  parts_length =
      let unsigned : length (unsigned_text p x) ≤ 24 + length x = either p.special (special_text p x) (finite_text p x) (24 + length x) special_length finite_length in
      either p.negative (45 ∷ unsigned_text p x) (unsigned_text p x) (25 + length x) (omega (arith, unsigned)) (omega (arith, unsigned))

single_length : (bits : ℕ) (x : List ℕ) → length (float_text single_format bits x) ≤ 25 + length x
single_length bits x = parts_length (float_parts single_format bits) x (omega arith) (omega arith) (omega arith)

double_length : (bits : ℕ) (x : List ℕ) → length (float_text double_format bits x) ≤ 25 + length x
double_length bits x = parts_length (float_parts double_format bits) x (omega arith) (omega arith) (omega arith)

-- ---- values
truth_length : (b : Truth) (x : List ℕ) → length (truth_text b x) ≤ 5 + length x
truth_length true x = omega arith
truth_length false x = omega arith

name_length : (u : TimeUnits) → length (unit_name u) ≤ 2
name_length Absent = omega arith
name_length Year = omega arith
name_length Month = omega arith
name_length Week = omega arith
name_length Day = omega arith
name_length Hour = omega arith
name_length Minute = omega arith
name_length Second = omega arith
name_length Millisecond = omega arith
name_length Microsecond = omega arith
name_length Nanosecond = omega arith
name_length Picosecond = omega arith
name_length Femtosecond = omega arith
name_length Attosecond = omega arith

abbrev FitsIn : ℕ → (List ℕ → List ℕ) → Type 0
FitsIn n f = length (f []) ≤ line_room n

abbrev ValueFits : ℕ → Value → Type 0
ValueFits n v = length (value_text v (10 ∷ [])) ≤ line_room n

bool_fits : (n k : ℕ) → Holds (ValueFits n) (bool_of k)
bool_fits n k = unless_holds (ValueFits n) (ltb 1 k) 32 (gives (Value.Bool (eqb k 1))) (λ e. omega (arith, truth_length (eqb k 1) (10 ∷ [])))

single_fits : (n : ℕ) (f : Single) → ValueFits n (Value.Single f)
single_fits n f = omega (arith, single_length f.bits (10 ∷ []))

double_fits : (n : ℕ) (f : Double) → ValueFits n (Value.Double f)
double_fits n f = omega (arith, double_length f.bits (10 ∷ []))

singles_fit : (n : ℕ) (f g : Single) → ValueFits n (Value.SinglePair f g)
singles_fit n f g = omega (arith, single_length f.bits (32 ∷ float_text single_format g.bits (10 ∷ [])), single_length g.bits (10 ∷ []))

doubles_fit : (n : ℕ) (f g : Double) → ValueFits n (Value.DoublePair f g)
doubles_fit n f g = omega (arith, double_length f.bits (32 ∷ float_text double_format g.bits (10 ∷ [])), double_length g.bits (10 ∷ []))

value_fits : (form : Form) (o : Endianness) (u : TimeUnits) (run : List ℕ) → AllBytes run → Holds (ValueFits (length run)) (value_by form o u run)
unfolding value_by
value_fits Form.Bool o u run h = bool_fits (length run) (in_order o run)
value_fits Form.Signed o u run h = omega (arith, signed_length (length run) (in_order o run) (10 ∷ []) (in_below o run h))
value_fits Form.Unsigned o u run h = omega (arith, number_length (length run) (in_order o run) (10 ∷ []) (in_below o run h))
value_fits Form.Half o u run h = single_fits (length run) (half_of (in_order o run))
value_fits Form.Single o u run h = single_fits (length run) (single_of (in_order o run))
value_fits Form.Double o u run h = double_fits (length run) (double_of (in_order o run))
value_fits Form.SinglePair o u run h = singles_fit (length run) (single_of (in_order o (take 4 run))) (single_of (in_order o (drop 4 run)))
value_fits Form.DoublePair o u run h = doubles_fit (length run) (double_of (in_order o (take 8 run))) (double_of (in_order o (drop 8 run)))
value_fits Form.Time o u run h =
    omega (arith, signed_length (length run) (in_order o run) (32 ∷ unit_name u ++ (10 ∷ [])) (in_below o run h), length-append (unit_name u) (10 ∷ []), name_length u)
value_fits Form.NoValue o u run h = tt

-- ---- strings
all_length : (one : ℕ → List ℕ → List ℕ) (k : ℕ) → ((c : ℕ) (x : List ℕ) → length (one c x) ≤ k + length x) → (cs x : List ℕ) → length (all_text one cs x) ≤ k * length cs + length x
all_length one k h [] x = omega arith
all_length one k h (c ∷ cs) x = omega (arith, h c (all_text one cs x), all_length one k h cs x)

byte_length : (b : ℕ) (x : List ℕ) → length (byte_text b x) ≤ 4 + length x
unfolding byte_text
byte_length b x =
    either (eqb b 92 || eqb b 39) (92 ∷ b ∷ x) _ (4 + length x) (omega arith)
    (either (leb 0x20 b && leb b 0x7E) (b ∷ x) (92 ∷ 120 ∷ hex_digits 2 b x) (4 + length x) (omega arith) (omega (arith, hex_length 2 b x)))

point_length : (c : ℕ) (x : List ℕ) → length (point_text c x) ≤ 4 + length x
unfolding point_text
point_length c x = either (ltb c 0xA0) (byte_text c x) (encode c ++ x) (4 + length x) (byte_length c x) (omega (arith, length-append (encode c) x, encode_few c))

-- no more code points than bytes
points_few : (o : Endianness) (run : List ℕ) → Holds (λ ps. length ps ≤ length run) (points o run)
points_few o [] = omega arith
points_few o (a ∷ []) = tt
points_few o (a ∷ b ∷ []) = tt
points_few o (a ∷ b ∷ c ∷ []) = tt
points_few o (a ∷ b ∷ c ∷ d ∷ run) =
    then_any (λ ps. length ps ≤ length (a ∷ b ∷ c ∷ d ∷ run)) (scalar (in_order o (a ∷ b ∷ c ∷ d ∷ []))) (λ p. each (λ ps. p ∷ ps) (points o run))
    (λ p. each_holds (λ ps. length ps ≤ length run) (λ ps. length ps ≤ length (a ∷ b ∷ c ∷ d ∷ run)) (λ ps. p ∷ ps) (points o run) (points_few o run) (λ ps h. omega (arith, h)))

text_fits : (n : ℕ) (cs : List ℕ) → length cs ≤ n → FitsIn n (lined (points_text cs))
text_fits n cs h = omega (arith, h, all_length point_text 4 point_length cs (39 ∷ 10 ∷ []))

bytes_fits : (n : ℕ) (bs : List ℕ) → length bs ≤ n → FitsIn n (lined (bytes_text bs))
bytes_fits n bs h = omega (arith, h, all_length byte_text 4 byte_length bs (39 ∷ 10 ∷ []))

raw_fits : (n : ℕ) (bs : List ℕ) → length bs ≤ n → FitsIn n (lined (raw_text bs))
raw_fits n [] h = omega arith
raw_fits n (b ∷ bs) h = omega (arith, h, all_length (hex_digits 2) 2 (λ c x. omega (arith, hex_length 2 c x)) (b ∷ bs) (10 ∷ []))

-- ---- elements
module _ (t : TypeStr) (run : List ℕ) where
  bytes_few : Holds (λ bs. length bs ≤ length run) (bytes_in t run)
  unfolding bytes_in
  bytes_few = go (is_bytes t.letter) (is_raw t.letter)
    where
      go : (a b : Truth) → Holds (λ bs. length bs ≤ length run) (cond a (gives (trimmed run)) (cond b (gives run) (refused 26)))
      go true b = trim_length run
      go false true = omega arith
      go false false = tt

  points_fewer : Holds (λ cs. length cs ≤ length run) (points_in t run)
  unfolding points_in
  points_fewer =
      unless_holds (λ cs. length cs ≤ length run) (not (is_unicode t.letter)) 26 (each trimmed (points t.order run))
      (λ e. each_holds (λ ps. length ps ≤ length run) (λ ps. length ps ≤ length run) trimmed (points t.order run) (points_few t.order run) (λ ps h. omega (arith, h, trim_length ps)))

  value_in : AllBytes run → Holds (ValueFits (length run)) (read_value t run)
  unfolding read_value
  value_in h =
      unless_holds (ValueFits (length run)) (not (is_type t)) 27 _
      (λ e. unless_holds (ValueFits (length run)) (has_no_value (form_of t.letter t.size)) 31 _
      (λ d. unless_holds (ValueFits (length run)) (not (eqb (length run) t.size)) 27 _ (λ c. value_fits (form_of t.letter t.size) t.order t.units run h)))

  in_line : AllBytes run → Holds (FitsIn (length run)) (line_in t run)
  unfolding line_in
  in_line h = unless_holds (FitsIn (length run)) (not (is_type t)) 27 _ (λ e. go (is_unicode t.letter) (is_bytes t.letter) (is_raw t.letter))
    where
      go : (a b c : Truth)
          → Holds (FitsIn (length run)) (cond a (each (λ cs. lined (points_text cs)) (points_in t run))
          (cond b (each (λ bs. lined (bytes_text bs)) (bytes_in t run)) (cond c (each (λ bs. lined (raw_text bs)) (bytes_in t run)) (each (λ v. lined (value_text v)) (read_value t run)))))
      go true b c = each_holds (λ cs. length cs ≤ length run) (FitsIn (length run)) (λ cs. lined (points_text cs)) (points_in t run) points_fewer (text_fits (length run))
      go false true c = each_holds (λ bs. length bs ≤ length run) (FitsIn (length run)) (λ bs. lined (bytes_text bs)) (bytes_in t run) bytes_few (bytes_fits (length run))
      go false false true = each_holds (λ bs. length bs ≤ length run) (FitsIn (length run)) (λ bs. lined (raw_text bs)) (bytes_in t run) bytes_few (raw_fits (length run))
      go false false false = each_holds (ValueFits (length run)) (FitsIn (length run)) (λ v. lined (value_text v)) (read_value t run) (value_in h) (λ v k. k)

pub line_fits : LineFits
line_fits t run h = each_holds (FitsIn (length run)) (λ text. length text ≤ line_room (length run)) (λ f. f []) (line_in t run) (in_line t run h) (λ f k. k)

-- with that room the line is put, or the element is refused for itself
pub never_28 : (t : TypeStr) (run room : List ℕ) → AllBytes run → line_room (length run) ≤ length room → then (element_text t run) (roomed 28 room) ≡ element_text t run
never_28 t run room h enough = go (element_text t run) (line_fits t run h)
  where
    go : (o : Outcome (List ℕ)) → Holds (λ text. length text ≤ line_room (length run)) o → then o (roomed 28 room) ≡ o
    go (gives text) k = roomed_whole 28 room text (omega (arith, k, enough))
    go (refused n) k = refl

-- as many bytes as are returned are in the room
pub put_inside : (t : TypeStr) (run room : List ℕ) (r : Result Bytes Refusal) (room' : List ℕ) (n : Bytes) → PutsElement t run room r room' → r ≡ Ok n → n.0 ≤ length room'
put_inside t run room r room' n w e = go (then (element_text t run) (roomed 28 room)) (sym (ap bytes_answer e) ∙ w.answered) w.room_after
  where
    go : (o : Outcome (List ℕ)) → gives n.0 ≡ each length o → room' ≡ afterwards at_front o room → n.0 ≤ length room'
    go (gives text) f g = omega (arith, gives_apart f, ap length g, length-append text (drop (length text) room))
    go (refused k) f g = gives_refused f
