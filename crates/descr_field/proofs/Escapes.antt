-- Document 01, "The record": "The type string is a part of the header text that begins after its quote; any escape in it is a syntax fault." Where a string
-- has no escape its bytes are the part of the text after the quote. Where it has one, it holds a backslash, a quote, LF, CR or TAB, and no type string
-- does: not as its order or letter, nor as a digit, nor in its units. So the definition, which reads the decoded bytes, gives 15 there too.
use Prim.Native.Nat.{ℕ, zero, suc, ◌+◌, ◌-◌, ◌<◌, ◌≤◌}
use native.Mathlib.Omega.{arith}
use mathlib.Core.Path.{◌≡◌, refl, sym, ap, subst, ◌∙◌}
use mathlib.Core.List.{List, [], ◌∷◌}
use mathlib.Core.Bool.{Bool, true, false, ◌||◌, ◌&&◌, cond, not}
use lib.ListN.{length, take, drop}
use lib.Seq.{drop-cons}
use lib.Dec.{eqb, ltb}
use borrow.Author.Tests.{eqb-true, ltb-true, ltb-false, le-ltb}
use Rattle.counts.specs.Outcome.{Outcome, gives, refused, then, unless}
use Rattle.counts.specs.Lists.{same}
use Rattle.counts.proofs.Alike.{or_none, false_true, or_elim}
use Rattle.literal_grammar.specs.Bytes.{is_break, is_escape, unescape}
use Rattle.decimal.specs.Decimal.{is_digit, digits_of, after_digits}
use Rattle.literal_bytes.specs.Text.{byte_at}
use Rattle.literal_escapes.specs.Strings.{Spelled, escape_at, piece_by, piece_at, ends, heard, pieces, spelled, scanned}
use Rattle.literal_bytes.specs.declared.Parsed.TheVariants.{Value, Fault}
use Rattle.literal_escapes.specs.declared.Scan.{Scan}
use Rattle.literal_escapes.specs.declared.Piece.{Piece}
use Rattle.literal_escapes.specs.declared.Piece.TheVariants.{Close, Byte, Bad}
use Rattle.type_letters.specs.declared.Endianness.{Endianness}
use Rattle.type_letters.specs.declared.TypeChar.{TypeChar}
use Rattle.type_str.specs.declared.TypeStr.{TypeStr}
use Rattle.type_units.specs.declared.TimeUnits.{TimeUnits}
use Rattle.type_units.specs.declared.TimeUnits.TheVariants.{Absent, Year, Month, Week, Day, Hour, Minute, Second, Millisecond, Microsecond, Nanosecond, Picosecond, Femtosecond, Attosecond}
use Rattle.type_letters.specs.Letters.{orders, order_of, order_byte, letters, letter_of, letter_byte, first_of}
use Rattle.type_units.specs.Units.{units, unit_text, units_of}
use Rattle.type_str.specs.TypeString.{size_allowed, sized, syntax, type_string}

-- ---- bytes: one of a list
abbrev among : List ℕ → ℕ → Bool
among [] b = false
among (x ∷ xs) b = eqb b x || among xs b

abbrev All : (ℕ → Type 0) → List ℕ → Type 0
All P [] = Unit {0}
All P (x ∷ xs) = P x × All P xs

by_cases : (P : ℕ → Type 0) (xs : List ℕ) → All P xs → (b : ℕ) → among xs b ≡ true → P b
by_cases P [] ps b h = false_true h
by_cases P (x ∷ xs) ps b h = or_elim (eqb b x) (among xs b) h (λ k. subst P (sym (eqb-true b x k)) ps.0) (by_cases P xs ps.1 b)

-- what an escape may mean: a backslash, a quote, LF, CR, TAB
abbrev specials : List ℕ
specials = 92 ∷ 39 ∷ 34 ∷ 10 ∷ 13 ∷ 9 ∷ []

abbrev special : List ℕ → Bool
special [] = false
special (b ∷ w) = among specials b || special w

escape_among : (b : ℕ) → is_escape b ≡ true → among (92 ∷ 39 ∷ 34 ∷ 110 ∷ 114 ∷ 116 ∷ []) b ≡ true
unfolding is_escape
escape_among b h = go (eqb b 92) (eqb b 39) (eqb b 34) (eqb b 110) (eqb b 114) (eqb b 116) h
  where
    go : (p q r s t u : Bool) → (p || q || r || s || t || u) ≡ true → (p || (q || (r || (s || (t || (u || false)))))) ≡ true
    go true q r s t u h = refl
    go false true r s t u h = refl
    go false false true s t u h = refl
    go false false false true t u h = refl
    go false false false false true u h = refl
    go false false false false false true h = refl
    go false false false false false false h = h

unescape_special : (b : ℕ) → is_escape b ≡ true → among specials (unescape b) ≡ true
unfolding unescape
unescape_special b h = by_cases (λ c. among specials (unescape c) ≡ true) (92 ∷ 39 ∷ 34 ∷ 110 ∷ 114 ∷ 116 ∷ []) (refl, (refl, (refl, (refl, (refl, (refl, tt)))))) b (escape_among b h)

-- ---- strings
module _ (q : ℕ) (s : List ℕ) where
  plain_piece : (at b e : ℕ) → piece_at q s at ≡ Byte b e → eqb (byte_at s at) 92 ≡ false → (b ≡ byte_at s at) × (e ≡ at + 1) × (at < length s)
  unfolding piece_at
  plain_piece at b e hp plain = go (ltb at (length s)) (eqb (byte_at s at) q) (is_break (byte_at s at)) refl (eqb (byte_at s at) 92) plain hp
    where
      go : (t u v : Bool) → ltb at (length s) ≡ t → (w : Bool) → w ≡ false
          → cond t (cond u (Close (at + 1)) (cond v (Bad at) (cond w (escape_at s (at + 1)) (Byte (byte_at s at) (at + 1))))) (Bad at) ≡ Byte b e → (b ≡ byte_at s at) × (e ≡ at + 1) × (at < length s)
      go true true v ht w hw h = absurd (let z : ◌≡◌ {A = ℕ} 0 1 = cc in omega arith)
      go true false true ht w hw h = absurd (let z : ◌≡◌ {A = ℕ} 0 1 = cc in omega arith)
      go true false false ht true hw h = false_true (sym hw)
      go true false false ht false hw h = (cc, cc, ltb-true at (length s) ht)
      go false u v ht w hw h = absurd (let z : ◌≡◌ {A = ℕ} 0 1 = cc in omega arith)

  escape_piece : (at b e : ℕ) → piece_at q s at ≡ Byte b e → eqb (byte_at s at) 92 ≡ true → among specials b ≡ true
  unfolding piece_at escape_at
  escape_piece at b e hp back = go (ltb at (length s)) (eqb (byte_at s at) q) (is_break (byte_at s at)) (eqb (byte_at s at) 92) back (is_escape (byte_at s (at + 1))) refl hp
    where
      go : (t u v w : Bool) → w ≡ true → (x : Bool) → is_escape (byte_at s (at + 1)) ≡ x
          → cond t (cond u (Close (at + 1)) (cond v (Bad at) (cond w (cond x (Byte (unescape (byte_at s (at + 1))) (at + 1 + 1)) (Bad (at + 1))) (Byte (byte_at s at) (at + 1))))) (Bad at) ≡ Byte b e
          → among specials b ≡ true
      go true true v w hw x hx h = absurd (let z : ◌≡◌ {A = ℕ} 0 1 = cc in omega arith)
      go true false true w hw x hx h = absurd (let z : ◌≡◌ {A = ℕ} 0 1 = cc in omega arith)
      go true false false false hw x hx h = false_true hw
      go true false false true hw true hx h =
          let e : unescape (byte_at s (at + 1)) ≡ b = cc in
          subst (λ (c : ℕ). among specials c ≡ true) e (unescape_special (byte_at s (at + 1)) hx)
      go true false false true hw false hx h = absurd (let z : ◌≡◌ {A = ℕ} 0 1 = cc in omega arith)
      go false u v w hw x hx h = absurd (let z : ◌≡◌ {A = ℕ} 0 1 = cc in omega arith)

  -- without an escape the bytes are those of the text
  abbrev Raw : ℕ → Spelled → Type 0
  Raw at r = r.escape ≡ false → (r.bytes ≡ take (length r.bytes) (drop at s)) × (at + length r.bytes ≤ length s)

  raw_pieces : (m at : ℕ) → at ≤ length s → Raw at (pieces m q s at)
  unfolding pieces
  raw_pieces zero at le = λ h. (refl, omega arith)
  raw_pieces (suc m) at le = go (piece_at q s at) refl (raw_pieces m)
    where
      go : (p : Piece) → piece_at q s at ≡ p → ((e : ℕ) → e ≤ length s → Raw e (pieces m q s e))
          → Raw at (elim p [ Close e ↦ ends (Value e) | Byte b e ↦ heard b (eqb (byte_at s at) 92) (pieces m q s e) | Bad e ↦ ends (Fault e) ])
      go (Close e) hp ih h = (refl, omega arith)
      go (Bad e) hp ih h = (refl, omega arith)
      go (Byte b e) hp ih h =
          let two = or_none (eqb (byte_at s at) 92) (pieces m q s e).escape h in
          let p = plain_piece at b e hp two.0 in
          let r = ih e (omega arith) two.1 in
          let es : e ≡ suc at = omega arith in
          let w : (pieces m q s e).bytes ≡ take (length (pieces m q s e).bytes) (drop (suc at) s) = r.0 ∙ ap (λ (i : ℕ). take (length (pieces m q s e).bytes) (drop i s)) es in
          (rw (drop-cons s at 256 p.2) (cc), omega arith)

  -- with one they hold what no type string holds
  abbrev Odd : Spelled → Type 0
  Odd r = r.escape ≡ true → special r.bytes ≡ true

  odd_pieces : (m at : ℕ) → Odd (pieces m q s at)
  unfolding pieces
  odd_pieces zero at = λ h. false_true h
  odd_pieces (suc m) at = go (piece_at q s at) refl (odd_pieces m)
    where
      go : (p : Piece) → piece_at q s at ≡ p → ((e : ℕ) → Odd (pieces m q s e))
          → Odd (elim p [ Close e ↦ ends (Value e) | Byte b e ↦ heard b (eqb (byte_at s at) 92) (pieces m q s e) | Bad e ↦ ends (Fault e) ])
      go (Close e) hp ih h = false_true h
      go (Bad e) hp ih h = false_true h
      go (Byte b e) hp ih h =
          or_elim (eqb (byte_at s at) 92) (pieces m q s e).escape h
          (λ k. rw (escape_piece at b e hp k) refl)
          (λ k. later (among specials b) (special (pieces m q s e).bytes) (ih e k))
        where
          later : (t u : Bool) → u ≡ true → (t || u) ≡ true
          later true u k = refl
          later false u k = k

  pub raw_string : (from : ℕ) → from ≤ length s → Raw from (spelled q s from)
  unfolding spelled
  raw_string from le = raw_pieces (length s + 1) from le

  odd_string : (from : ℕ) → Odd (spelled q s from)
  unfolding spelled
  odd_string from = odd_pieces (length s + 1) from

-- ---- type strings
abbrev Only15 : {A : Type 0} → Outcome A → Type 0
Only15 (gives a) = Unit {0}
Only15 (refused n) = n ≡ 15

first_only : {A : Type 0} (test : A → Bool) (table : List A) → Only15 (first_of test table)
first_only test [] = refl
first_only test (a ∷ more) = go (test a) (first_only test more)
  where
    go : (t : Bool) → Only15 (first_of test more) → Only15 (cond t (gives a) (first_of test more))
    go true h = tt
    go false h = h

order_special : (b : ℕ) → among specials b ≡ true → order_of b ≡ refused 15
unfolding order_of
order_special b h = by_cases (λ c. order_of c ≡ refused 15) specials (refl, (refl, (refl, (refl, (refl, (refl, tt)))))) b h

letter_special : (b : ℕ) → among specials b ≡ true → letter_of b ≡ refused 15
unfolding letter_of
letter_special b h = by_cases (λ c. letter_of c ≡ refused 15) specials (refl, (refl, (refl, (refl, (refl, (refl, tt)))))) b h

digit_special : (b : ℕ) → among specials b ≡ true → is_digit b ≡ false
unfolding is_digit
digit_special b h = by_cases (λ c. is_digit c ≡ false) specials (refl, (refl, (refl, (refl, (refl, (refl, tt)))))) b h

rest_special : (s : List ℕ) → special s ≡ true → special (after_digits s) ≡ true
unfolding digits_of
rest_special [] h = false_true h
rest_special (b ∷ s) h = go (is_digit b) refl (rest_special s)
  where
    go : (t : Bool) → is_digit b ≡ t → (special s ≡ true → special (after_digits s) ≡ true) → special (drop (length {A = ℕ} (elim t [ true ↦ b ∷ digits_of s | false ↦ [] ])) (b ∷ s)) ≡ true
    go true ht ih = or_elim (among specials b) (special s) h (λ k. false_true (sym (digit_special b k) ∙ ht)) ih
    go false ht ih = h

same_special : (w known : List ℕ) → special w ≡ true → special known ≡ false → same w known ≡ false
same_special [] [] h k = false_true h
same_special [] (c ∷ known) h k = refl
same_special (b ∷ w) [] h k = refl
same_special (b ∷ w) (c ∷ known) h k = go (eqb b c) refl (or_none (among specials c) (special known) k) (same_special w known)
  where
    last : (u : Bool) → (u && false) ≡ false
    last true = refl
    last false = refl

    go : (t : Bool) → eqb b c ≡ t → (among specials c ≡ false) × (special known ≡ false) → (special w ≡ true → special known ≡ false → same w known ≡ false) → (same w known && t) ≡ false
    go true ht parts ih =
        or_elim (among specials b) (special w) h
        (λ z. false_true (sym parts.0 ∙ subst (λ (x : ℕ). among specials x ≡ true) (eqb-true b c ht) z))
        (λ z. rw (ih z parts.1) refl)
    go false ht parts ih = last (same w known)

unit_plain : (u : TimeUnits) → special (unit_text u []) ≡ false
unit_plain Absent = refl
unit_plain Year = refl
unit_plain Month = refl
unit_plain Week = refl
unit_plain Day = refl
unit_plain Hour = refl
unit_plain Minute = refl
unit_plain Second = refl
unit_plain Millisecond = refl
unit_plain Microsecond = refl
unit_plain Nanosecond = refl
unit_plain Picosecond = refl
unit_plain Femtosecond = refl
unit_plain Attosecond = refl

units_special : (text : List ℕ) → special text ≡ true → units_of text ≡ refused 15
unfolding units_of
units_special text h = go units
  where
    go : (us : List TimeUnits) → first_of (λ u. same text (unit_text u [])) us ≡ refused 15
    go [] = refl
    go (u ∷ us) = rw (same_special text (unit_text u []) h (unit_plain u)) (go us)

sized_special : (order : Endianness) (letter : TypeChar) (s : List ℕ) → special s ≡ true → sized order letter (digits_of s) (after_digits s) ≡ refused 15
unfolding sized
sized_special order letter s h = rw (sized, units_special (after_digits s) (rest_special s h)) (go (not (size_allowed letter (digits_of s))))
  where
    go : (t : Bool) → unless {A = TypeStr} t 15 (refused 15) ≡ refused 15
    go true = refl
    go false = refl

syntax_special : (w : List ℕ) → special w ≡ true → syntax w ≡ refused 15
unfolding syntax order_of letter_of
syntax_special [] h = false_true h
syntax_special (o ∷ []) h = refl
syntax_special (o ∷ l ∷ s) h =
    or_elim (among specials o) (special (l ∷ s)) h
    (λ k. rw (syntax, order_special o k) refl)
    (λ k. order (order_of o) (first_only (λ x. eqb o (order_byte x)) orders) (λ d. or_elim (among specials l) (special s) k (λ z. rw (letter_special l z) refl) (λ z. letter d (letter_of l) (first_only (λ x. eqb l (letter_byte x)) letters) (λ c. sized_special d c s z))))
  where
    letter : (d : Endianness) (r : Outcome TypeChar) → Only15 r → ((c : TypeChar) → sized d c (digits_of s) (after_digits s) ≡ refused 15) → then r (λ c. sized d c (digits_of s) (after_digits s)) ≡ refused 15
    letter d (gives c) k f = f c
    letter d (refused n) k f = ap refused k

    order : (r : Outcome Endianness) → Only15 r → ((d : Endianness) → then (letter_of l) (λ c. sized d c (digits_of s) (after_digits s)) ≡ refused 15) → then r (λ d. then (letter_of l) (λ c. sized d c (digits_of s) (after_digits s))) ≡ refused 15
    order (gives d) k f = f d
    order (refused n) k f = ap refused k

pub type_special : (q : ℕ) (s : List ℕ) (from : ℕ) → (spelled q s from).escape ≡ true → type_string (spelled q s from).bytes ≡ refused 15
unfolding type_string
type_special q s from h = rw (type_string, syntax_special (spelled q s from).bytes (odd_string q s from h)) refl

-- past the end of the text there is no piece
out_piece : (q : ℕ) (s : List ℕ) (at : ℕ) → length s ≤ at → piece_at q s at ≡ Bad at
unfolding piece_at
out_piece q s at h = ap (λ (t : Bool). cond t (piece_by q s at) (Bad at)) (le-ltb at (length s) h)

abbrev Empty : Spelled → Type 0
Empty r = r.bytes ≡ []

none_pieces : (q : ℕ) (s : List ℕ) (m at : ℕ) → length s ≤ at → Empty (pieces m q s at)
unfolding pieces
none_pieces q s zero at h = refl
none_pieces q s (suc m) at h = go (piece_at q s at) (out_piece q s at h)
  where
    go : (p : Piece) → p ≡ Bad at → Empty (elim p [ Close e ↦ ends (Value e) | Byte b e ↦ heard b (eqb (byte_at s at) 92) (pieces m q s e) | Bad e ↦ ends (Fault e) ])
    go (Close e) k = refl
    go (Byte b e) k = absurd (let z : ◌≡◌ {A = ℕ} 0 1 = cc in omega arith)
    go (Bad e) k = refl

no_type_lem : type_string [] ≡ refused 15
unfolding type_string syntax
no_type_lem = refl

-- a string that would begin past the end of the text is no type string
type_outside : (q : ℕ) (s : List ℕ) (from : ℕ) → length s ≤ from → refused 15 ≡ type_string (spelled q s from).bytes
unfolding spelled
type_outside q s from h = sym (ap type_string (none_pieces q s (length s + 1) from h) ∙ no_type_lem)

-- ---- a type string, as the code scans it
module _ (q : ℕ) (s : List ℕ) (from : ℕ) (r : Scan) (hr : r ≡ scanned (spelled q s from)) where
  scanned_length : r.len ≡ length (spelled q s from).bytes
  scanned_length = ap (λ (x : Scan). x.len) hr

  pub escaped_says : (r.escape || ltb (length s) from) ≡ true → refused 15 ≡ type_string (spelled q s from).bytes
  escaped_says h =
      or_elim r.escape (ltb (length s) from) h
      (λ k. sym (type_special q s from (sym (ap (λ (x : Scan). x.escape) hr) ∙ k)))
      (λ k. let lt = ltb-true (length s) from k in type_outside q s from (omega arith))

  raw_here : (r.escape || ltb (length s) from) ≡ false
      → ((spelled q s from).bytes ≡ take (length (spelled q s from).bytes) (drop from s)) × (from + length (spelled q s from).bytes ≤ length s)
  raw_here h =
      let two = or_none r.escape (ltb (length s) from) h in
      raw_string q s from (ltb-false (length s) from two.1) (sym (ap (λ (x : Scan). x.escape) hr) ∙ two.0)

  pub raw_inside : (r.escape || ltb (length s) from) ≡ false → from + r.len ≤ length s
  raw_inside h = omega (arith, (raw_here h).1, scanned_length)

  pub raw_says : (r.escape || ltb (length s) from) ≡ false → take (from + r.len - from) (drop from s) ≡ (spelled q s from).bytes
  raw_says h =
      let e : from + r.len - from ≡ length (spelled q s from).bytes = omega (arith, scanned_length) in
      ap (λ (n : ℕ). take n (drop from s)) e ∙ sym (raw_here h).0
