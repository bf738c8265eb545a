-- A type string is the same between quotes: none of its bytes is escaped.
use Prim.Native.Nat.{ℕ, ◌+◌, ◌/◌, ◌%◌, ◌≤◌}
use native.Mathlib.Omega.{arith}
use mathlib.Core.Path.{◌≡◌, refl, sym, ap, subst, ◌∙◌}
use mathlib.Core.Bool.{Bool, true, false, cond}
use mathlib.Core.List.{List, [], ◌∷◌}
use borrow.Author.Tests.{ne_eqb}
use Rattle.counts.specs.Outcome.{Outcome, gives, refused}
use Rattle.decimal.specs.Decimal.{printed}
use Rattle.decimal.proofs.Prints.{by_tens, printed_low, printed_high}
use Rattle.type_letters.specs.declared.Endianness.{Endianness}
use Rattle.type_letters.specs.declared.Endianness.TheVariants.{Little, Big, Irrelevant}
use Rattle.type_letters.specs.declared.TypeChar.{TypeChar}
use Rattle.type_letters.specs.declared.TypeChar.TheVariants.{Bool as Boolean, Int, Uint, Float as Floating, Complex, TimeDelta, DateTime, ByteStr, UnicodeStr, Object, RawData}
use Rattle.type_units.specs.declared.TimeUnits.{TimeUnits}
use Rattle.type_units.specs.declared.TimeUnits.TheVariants.{Absent, Year, Month, Week, Day, Hour, Minute, Second, Millisecond, Microsecond, Nanosecond, Picosecond, Femtosecond, Attosecond}
use Rattle.type_str.specs.declared.TypeStr.{TypeStr}
use Rattle.type_letters.specs.Letters.{order_byte, letter_byte, is_object}
use Rattle.type_units.specs.Units.{unit_text}
use Rattle.type_str.specs.Text.{type_text}
use Rattle.literal_grammar.specs.Print.{escape_of, spelled_byte, escapes, quote, print}
use Rattle.emit.specs.Emits.{Emits}
use Rattle.emit.proofs.Pieces.{emits_none, emits_same}
use Rattle.write_pieces.specs.Pieces.{type_piece}

digit_plain : (b : ℕ) → 48 ≤ b → b ≤ 57 → escape_of b ≡ 0
unfolding escape_of
digit_plain b h k =
    simp (escape_of, ne_eqb b 92 (λ e. omega arith), ne_eqb b 39 (λ e. omega arith), ne_eqb b 13 (λ e. omega arith), ne_eqb b 10 (λ e. omega arith))

order_plain : (o : Endianness) → escape_of (order_byte o) ≡ 0
unfolding escape_of
order_plain Little = refl
order_plain Big = refl
order_plain Irrelevant = refl

letter_plain : (l : TypeChar) → escape_of (letter_byte l) ≡ 0
unfolding escape_of
letter_plain Boolean = refl
letter_plain Int = refl
letter_plain Uint = refl
letter_plain Floating = refl
letter_plain Complex = refl
letter_plain TimeDelta = refl
letter_plain DateTime = refl
letter_plain ByteStr = refl
letter_plain UnicodeStr = refl
letter_plain Object = refl
letter_plain RawData = refl

units_plain : (u : TimeUnits) (r : List ℕ) → escapes (unit_text u []) r ≡ unit_text u r
unfolding escape_of
units_plain Absent r = refl
units_plain Year r = refl
units_plain Month r = refl
units_plain Week r = refl
units_plain Day r = refl
units_plain Hour r = refl
units_plain Minute r = refl
units_plain Second r = refl
units_plain Millisecond r = refl
units_plain Microsecond r = refl
units_plain Nanosecond r = refl
units_plain Picosecond r = refl
units_plain Femtosecond r = refl
units_plain Attosecond r = refl

one_plain : (b : ℕ) (w r : List ℕ) → escape_of b ≡ 0 → escapes (b ∷ w) r ≡ b ∷ escapes w r
one_plain b w r e = ap (λ (c : ℕ). spelled_byte c b (escapes w r)) e

number_plain : (n : ℕ) (w r : List ℕ) → escapes (printed n w) r ≡ printed n (escapes w r)
number_plain = by_tens (λ n. (w r : List ℕ) → escapes (printed n w) r ≡ printed n (escapes w r))
    (λ n h w r. rw (printed_low n w h, printed_low n (escapes w r) h) (one_plain (48 + n) w r (digit_plain (48 + n) (omega arith) (omega arith))))
    (λ n h ih w r.
    rw (printed_high n w h, printed_high n (escapes w r) h)
    (ih ((48 + n % 10) ∷ w) r ∙ ap (λ (x : List ℕ). printed (n / 10) x) (one_plain (48 + n % 10) w r (digit_plain (48 + n % 10) (omega arith) (omega arith)))))

size_plain : (object : Bool) (n : ℕ) (w r : List ℕ) → escapes (cond object w (printed n w)) r ≡ cond object (escapes w r) (printed n (escapes w r))
size_plain true n w r = refl
size_plain false n w r = number_plain n w r

pub type_plain : (t : TypeStr) (r : List ℕ) → escapes (type_text t []) r ≡ type_text t r
unfolding type_text
type_plain t r =
    let o = order_byte t.order in
    let l = letter_byte t.letter in
    let rest : List ℕ = cond (is_object t.letter) (unit_text t.units []) (printed t.size (unit_text t.units [])) in
    one_plain o (l ∷ rest) r (order_plain t.order)
    ∙ ap (λ (x : List ℕ). o ∷ x) (one_plain l rest r (letter_plain t.letter))
    ∙ ap (λ (x : List ℕ). o ∷ l ∷ x) (size_plain (is_object t.letter) t.size (unit_text t.units []) r)
    ∙ ap (λ (x : List ℕ). o ∷ l ∷ cond (is_object t.letter) x (printed t.size x)) (units_plain t.units r)

-- a type that is put between two quotes is quoted
pub type_quoted : (t : TypeStr) (o : Outcome TypeStr) (old : List ℕ) (at : ℕ) (out : List ℕ) (p : ℕ) → gives t ≡ o → Emits (λ x. 39 ∷ type_text t (39 ∷ x)) old at out p
    → Emits (type_piece o) old at out p
type_quoted t o old at out p e h =
    subst (λ (y : Outcome TypeStr). Emits (type_piece y) old at out p) e
    (emits_same (λ x. 39 ∷ type_text t (39 ∷ x)) (print (quote (type_text t []))) old at out p (λ x. ap (λ (y : List ℕ). 39 ∷ y) (sym (type_plain t (39 ∷ x)))) h)

-- where there is no type, nothing is put
pub no_type_lem : (o : Outcome TypeStr) (old : List ℕ) (at : ℕ) → refused 27 ≡ o → Emits (type_piece o) old at old at
no_type_lem o old at e = subst (λ (y : Outcome TypeStr). Emits (type_piece y) old at old at) e (emits_none old at)
