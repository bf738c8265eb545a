-- A header's text is ASCII exactly where its names are (`text_ascii`): all else that is printed is ASCII, and an escape is as its byte.
use Prim.Native.Nat.{ℕ, zero, suc, ◌+◌, ◌%◌, ◌<◌, ◌≤◌}
use native.Mathlib.Omega.{arith}
use mathlib.Core.Path.{◌≡◌, refl, sym, ap, ◌∙◌}
use mathlib.Core.Bool.{Bool, true, false, cond, ◌&&◌, and_assoc, and-false}
use mathlib.Core.List.{List, [], ◌∷◌, ◌++◌}
use borrow.Author.Tests.{lt-ltb, le-ltb, eqb-true}
use lib.Dec.{eqb, ltb}
use lib.ListN.{get_or}
use Rattle.std.specs.Bool.{MatchBool}
use Rattle.std.specs.Str.{IsAscii, IsNotAscii}
use Rattle.decimal.specs.Decimal.{printed}
use Rattle.decimal.proofs.Prints.{by_tens, printed_low, printed_high}
use Rattle.type_letters.specs.declared.Endianness.{Endianness}
use Rattle.type_letters.specs.declared.Endianness.TheVariants.{Little, Big, Irrelevant}
use Rattle.type_letters.specs.declared.TypeChar.{TypeChar}
use Rattle.type_letters.specs.declared.TypeChar.TheVariants.{Bool as Boolean, Int, Uint, Float as Floating, Complex, TimeDelta, DateTime, ByteStr, UnicodeStr, Object, RawData}
use Rattle.type_units.specs.declared.TimeUnits.{TimeUnits}
use Rattle.type_units.specs.declared.TimeUnits.TheVariants.{Absent, Year, Month, Week, Day, Hour, Minute, Second, Millisecond, Microsecond, Nanosecond, Picosecond, Femtosecond, Attosecond}
use Rattle.type_str.specs.declared.TypeStr.{TypeStr}
use Rattle.type_letters.specs.Letters.{order_byte, letter_byte, is_object}
use Rattle.type_units.specs.Units.{unit_text}
use Rattle.type_str.specs.Text.{type_text}
use Rattle.literal_grammar.specs.Print.{Layout, escape_of, spelled_byte, escapes, print, print_row}
use Rattle.dtype.specs.declared.Order.{Order}
use Rattle.dtype.specs.declared.Order.TheVariants.{C, Fortran}
use Rattle.dtype.specs.Dtype.{Dtype, Fields, plain, array, record_of, end_of_fields, field_then}
use Rattle.dtype.specs.Record.{names_of, names_in, names}
use Rattle.record.specs.Layout.{dimension_row, shape_layout, field_layout, levels_of, descr_layout, field_row}
use Rattle.record.specs.Padding.{is_ascii}
use Rattle.record.specs.File.{bare_text}
use Rattle.check_record.specs.Valid.{made}
use Rattle.write_pieces.proofs.Types.{type_plain}

-- ---- what the library's test says of each byte
all_low : (s : List ℕ) → IsAscii s → true ≡ is_ascii s
all_low [] h = refl
all_low (b ∷ s) h = rw (lt-ltb b 0x80 (h 0)) (all_low s (λ i. h (suc i)))

some_high : (s : List ℕ) (i : ℕ) → 0x80 ≤ get_or s i 0 → false ≡ is_ascii s
some_high [] i h = absurd (omega arith)
some_high (b ∷ s) zero h = rw (le-ltb b 0x80 h)
some_high (b ∷ s) (suc i) h = sym (and-false (ltb b 0x80)) ∙ ap (λ (c : Bool). ltb b 0x80 && c) (some_high s i h)

pub by_bytes : (s : List ℕ) (r : Bool) → MatchBool r (IsAscii s) (IsNotAscii s) → r ≡ is_ascii s
by_bytes s true h = all_low s h
by_bytes s false h = some_high s h.0 h.1

-- ---- numbers, type strings, shapes
low : (b : ℕ) (r : List ℕ) → b < 0x80 → is_ascii (b ∷ r) ≡ is_ascii r
low b r h = ap (λ (c : Bool). c && is_ascii r) (lt-ltb b 0x80 h)

number_ascii : (n : ℕ) (r : List ℕ) → is_ascii (printed n r) ≡ is_ascii r
number_ascii = by_tens (λ n. (r : List ℕ) → is_ascii (printed n r) ≡ is_ascii r)
    (λ n h r. rw (printed_low n r h) (low (48 + n) r (omega arith)))
    (λ n h ih r. rw (printed_high n r h) (ih ((48 + n % 10) ∷ r) ∙ low (48 + n % 10) r (omega arith)))

order_ascii : (o : Endianness) (r : List ℕ) → is_ascii (order_byte o ∷ r) ≡ is_ascii r
order_ascii Little r = refl
order_ascii Big r = refl
order_ascii Irrelevant r = refl

letter_ascii : (l : TypeChar) (r : List ℕ) → is_ascii (letter_byte l ∷ r) ≡ is_ascii r
letter_ascii Boolean r = refl
letter_ascii Int r = refl
letter_ascii Uint r = refl
letter_ascii Floating r = refl
letter_ascii Complex r = refl
letter_ascii TimeDelta r = refl
letter_ascii DateTime r = refl
letter_ascii ByteStr r = refl
letter_ascii UnicodeStr r = refl
letter_ascii Object r = refl
letter_ascii RawData r = refl

units_ascii : (u : TimeUnits) (r : List ℕ) → is_ascii (unit_text u r) ≡ is_ascii r
units_ascii Absent r = refl
units_ascii Year r = refl
units_ascii Month r = refl
units_ascii Week r = refl
units_ascii Day r = refl
units_ascii Hour r = refl
units_ascii Minute r = refl
units_ascii Second r = refl
units_ascii Millisecond r = refl
units_ascii Microsecond r = refl
units_ascii Nanosecond r = refl
units_ascii Picosecond r = refl
units_ascii Femtosecond r = refl
units_ascii Attosecond r = refl

size_ascii : (object : Bool) (n : ℕ) (r : List ℕ) → is_ascii (cond object r (printed n r)) ≡ is_ascii r
size_ascii true n r = refl
size_ascii false n r = number_ascii n r

type_ascii : (t : TypeStr) (r : List ℕ) → is_ascii (type_text t r) ≡ is_ascii r
unfolding type_text
type_ascii t r =
    let sized : List ℕ = cond (is_object t.letter) (unit_text t.units r) (printed t.size (unit_text t.units r)) in
    order_ascii t.order (letter_byte t.letter ∷ sized) ∙ letter_ascii t.letter sized ∙ size_ascii (is_object t.letter) t.size (unit_text t.units r) ∙ units_ascii t.units r

row_ascii : (s r : List ℕ) (j : ℕ) → j ≤ 1 → is_ascii (print_row (dimension_row j s) r) ≡ is_ascii r
row_ascii [] r j h = refl
row_ascii (n ∷ s) r zero h = number_ascii n _ ∙ row_ascii s r 0 h
row_ascii (n ∷ s) r (suc zero) h = number_ascii n _ ∙ row_ascii s r 1 h
row_ascii (n ∷ s) r (suc (suc j)) h = absurd (omega arith)

shape_ascii : (s r : List ℕ) (j : ℕ) → j ≤ 1 → is_ascii (print (shape_layout j s) r) ≡ is_ascii r
shape_ascii [] r j h = refl
shape_ascii (n ∷ s) r j h = row_ascii (n ∷ s) (41 ∷ r) j h

-- ---- names
spelled_ascii : (b : ℕ) (r : List ℕ) → is_ascii (spelled_byte (escape_of b) b r) ≡ (ltb b 0x80 && is_ascii r)
unfolding escape_of
spelled_ascii b r = go (eqb b 92) (eqb b 39) (eqb b 13) (eqb b 10) refl refl refl refl
  where
    go : (c₁ c₂ c₃ c₄ : Bool) → eqb b 92 ≡ c₁ → eqb b 39 ≡ c₂ → eqb b 13 ≡ c₃ → eqb b 10 ≡ c₄
        → is_ascii (spelled_byte (cond c₁ 92 (cond c₂ 39 (cond c₃ 114 (cond c₄ 110 0)))) b r) ≡ (ltb b 0x80 && is_ascii r)
    go true c₂ c₃ c₄ e₁ e₂ e₃ e₄ = let z = eqb-true b 92 e₁ in rw z
    go false true c₃ c₄ e₁ e₂ e₃ e₄ = let z = eqb-true b 39 e₂ in rw z
    go false false true c₄ e₁ e₂ e₃ e₄ = let z = eqb-true b 13 e₃ in rw z
    go false false false true e₁ e₂ e₃ e₄ = let z = eqb-true b 10 e₄ in rw z
    go false false false false e₁ e₂ e₃ e₄ = refl

escapes_ascii : (w r : List ℕ) → is_ascii (escapes w r) ≡ (is_ascii w && is_ascii r)
escapes_ascii [] r = refl
escapes_ascii (b ∷ w) r =
    spelled_ascii b (escapes w r) ∙ ap (λ (c : Bool). ltb b 0x80 && c) (escapes_ascii w r) ∙ sym (and_assoc (ltb b 0x80) (is_ascii w) (is_ascii r))

append_ascii : (w r : List ℕ) → is_ascii (w ++ r) ≡ (is_ascii w && is_ascii r)
append_ascii [] r = refl
append_ascii (b ∷ w) r = ap (λ (c : Bool). ltb b 0x80 && c) (append_ascii w r) ∙ sym (and_assoc (ltb b 0x80) (is_ascii w) (is_ascii r))

-- ---- a dtype: whether all its names are
abbrev mutual
  ascii_names : Dtype → Bool
  ascii_names (plain t) = true
  ascii_names (array n d) = ascii_names d
  ascii_names (record_of fs) = ascii_fields fs

  ascii_fields : Fields → Bool
  ascii_fields end_of_fields = true
  ascii_fields (field_then name d fs) = is_ascii name && (ascii_names d && ascii_fields fs)

field_ascii : (name : List ℕ) (l : Layout) (a : Bool) (s r : List ℕ) → ((x : List ℕ) → is_ascii (print l x) ≡ (a && is_ascii x))
    → is_ascii (print (field_layout name l s) r) ≡ (is_ascii name && (a && is_ascii r))
field_ascii name l a [] r h = escapes_ascii name _ ∙ ap (λ (c : Bool). is_ascii name && c) (h (41 ∷ r))
field_ascii name l a (n ∷ s) r h =
    escapes_ascii name _ ∙ ap (λ (c : Bool). is_ascii name && c) (h _ ∙ ap (λ (c : Bool). a && c) (shape_ascii (n ∷ s) (41 ∷ r) 0 (omega arith)))

regroup : (a b c e : Bool) → (a && (b && (c && e))) ≡ ((a && (b && c)) && e)
regroup true true c e = refl
regroup true false c e = refl
regroup false b c e = refl

mutual
  descr_ascii : (d : Dtype) (r : List ℕ) → is_ascii (print (descr_layout d) r) ≡ (ascii_names d && is_ascii r)
  descr_ascii (plain t) r = ap is_ascii (type_plain t (39 ∷ r)) ∙ type_ascii t (39 ∷ r)
  descr_ascii (array n d) r = descr_ascii d r
  descr_ascii (record_of fs) r = fields_ascii fs (93 ∷ r)

  fields_ascii : (fs : Fields) (r : List ℕ) → is_ascii (print_row (field_row fs) r) ≡ (ascii_fields fs && is_ascii r)
  fields_ascii end_of_fields r = refl
  fields_ascii (field_then name d fs) r =
      field_ascii name (descr_layout d) (ascii_names d) (levels_of d) (44 ∷ 32 ∷ print_row (field_row fs) r) (λ x. descr_ascii d x)
      ∙ ap (λ (c : Bool). is_ascii name && (ascii_names d && c)) (fields_ascii fs r)
      ∙ regroup (is_ascii name) (ascii_names d) (ascii_fields fs) (is_ascii r)

mutual
  names_ascii : (d : Dtype) (y : List ℕ) → is_ascii (names_of d y) ≡ (ascii_names d && is_ascii y)
  names_ascii (plain t) y = refl
  names_ascii (array n d) y = names_ascii d y
  names_ascii (record_of fs) y = names_in_ascii fs y

  names_in_ascii : (fs : Fields) (y : List ℕ) → is_ascii (names_in fs y) ≡ (ascii_fields fs && is_ascii y)
  names_in_ascii end_of_fields y = refl
  names_in_ascii (field_then name d fs) y =
      append_ascii name _
      ∙ ap (λ (c : Bool). is_ascii name && c) (names_ascii d _ ∙ ap (λ (c : Bool). ascii_names d && c) (names_in_ascii fs y))
      ∙ regroup (is_ascii name) (ascii_names d) (ascii_fields fs) (is_ascii y)

-- ---- the header's text
order_shape : (o : Order) (d : Dtype) (s : List ℕ) → is_ascii (bare_text (made d s o)) ≡ (ascii_names d && true)
unfolding escape_of
order_shape C d s = descr_ascii d _ ∙ ap (λ (c : Bool). ascii_names d && c) (shape_ascii s _ 1 (omega arith))
order_shape Fortran d s = descr_ascii d _ ∙ ap (λ (c : Bool). ascii_names d && c) (shape_ascii s _ 1 (omega arith))

pub text_ascii : (d : Dtype) (s : List ℕ) (o : Order) → is_ascii (names d) ≡ is_ascii (bare_text (made d s o))
text_ascii d s o = names_ascii d [] ∙ sym (order_shape o d s)
