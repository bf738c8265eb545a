-- What a value is by its first byte, from the class of the byte: one computed test over all bytes. Past the end, 256 begins nothing.
use mathlib.Core.Path.{◌≡◌, refl, sym, ap, ◌∙◌}
use mathlib.Core.Bool.{Bool, false, cond}
use mathlib.Core.List.{List}
use Prim.Native.Nat.{ℕ, ◌<◌, ◌≤◌}
use native.Mathlib.Omega.{arith}
use lib.Dec.{eqb, eqb→eq}
use lib.ListN.{length, get_or-eq_default}
use borrow.Author.Tests.{ne_eqb, le-leb, lt-leb}
use Rattle.decimal.specs.Decimal.{is_digit}
use Rattle.literal_grammar.specs.Bytes.{is_blank, is_quote, is_open}
use Rattle.literal_classes.specs.Classes.{is_word_letter, is_bracket, class_of}
use Rattle.literal_classes.proofs.Bytes.{at_below}
use Rattle.literal_bytes.specs.Text.{byte_at, kind_of}
use Rattle.literal_bytes.specs.ByClass.{word_kind, bracket_kind}
use Rattle.literal_bytes.specs.declared.ValueKind.{ValueKind}
use Rattle.literal_bytes.specs.declared.ValueKind.TheVariants.{Square, Round, Curly, Quote, Minus, Digit, TrueWord, FalseWord, NoneWord, Other}

-- the kind by the class: 1 is a digit, 2 a word letter, 3 a quote, 4 a bracket, 5 the sign
abbrev kind_by : (class b : ℕ) → ValueKind
kind_by c b = cond (eqb c 1) Digit (cond (eqb c 2) (word_kind b) (cond (eqb c 3) Quote (cond (eqb c 4) (bracket_kind b) (cond (eqb c 5) Minus Other))))

-- kinds as numbers, which a test compares
abbrev numbered : ValueKind → ℕ
numbered Square = 0
numbered Round = 1
numbered Curly = 2
numbered Quote = 3
numbered Minus = 4
numbered Digit = 5
numbered TrueWord = 6
numbered FalseWord = 7
numbered NoneWord = 8
numbered Other = 9

abbrev back : ℕ → ValueKind
back n =
    cond (eqb n 0) Square (cond (eqb n 1) Round (cond (eqb n 2) Curly (cond (eqb n 3) Quote (cond (eqb n 4) Minus
    (cond (eqb n 5) Digit (cond (eqb n 6) TrueWord (cond (eqb n 7) FalseWord (cond (eqb n 8) NoneWord Other))))))))

back_numbered : (k : ValueKind) → back (numbered k) ≡ k
back_numbered Square = refl
back_numbered Round = refl
back_numbered Curly = refl
back_numbered Quote = refl
back_numbered Minus = refl
back_numbered Digit = refl
back_numbered TrueWord = refl
back_numbered FalseWord = refl
back_numbered NoneWord = refl
back_numbered Other = refl

abbrev right : ℕ → Bool
right b = eqb (numbered (kind_of b)) (numbered (kind_by (class_of b) b))

kind_right : (b : ℕ) → b < 256 → kind_of b ≡ kind_by (class_of b) b
unfolding kind_of class_of is_blank is_digit is_word_letter is_quote is_bracket is_open
kind_right b h =
    sym (back_numbered (kind_of b)) ∙ ap back (eqb→eq (numbered (kind_of b)) (numbered (kind_by (class_of b) b)) (at_below right 256 tt b h)) ∙ back_numbered (kind_by (class_of b) b)

-- what a `match` on the class c of the byte knows in an arm for one class, and in the last one
pub by_class : (b c class : ℕ) {x : ValueKind} → b < 256 → c ≡ class_of b → c ≡ class → x ≡ kind_by class b → x ≡ kind_of b
by_class b c class l said is h = h ∙ ap (λ (z : ℕ). kind_by z b) (sym is ∙ said) ∙ sym (kind_right b l)

pub by_no_class : (b c : ℕ) → b < 256 → c ≡ class_of b → eqb c 1 ≡ false → eqb c 2 ≡ false → eqb c 3 ≡ false → eqb c 4 ≡ false → eqb c 5 ≡ false → Other ≡ kind_of b
by_no_class b c l said n1 n2 n3 n4 n5 = by_class b c c l said refl (sym (rw (n1, n2, n3, n4, n5)))

-- past the end of a text no value begins, and no quote is there
digit_past : (b : ℕ) → 256 ≤ b → is_digit b ≡ false
unfolding is_digit
digit_past b h = simp (le-leb 48 b (omega arith), lt-leb b 57 (omega arith))

pub kind_past : (b : ℕ) → 256 ≤ b → Other ≡ kind_of b
unfolding kind_of is_quote
kind_past b h =
    let n : (k : ℕ) → k < 256 → eqb b k ≡ false = λ k l. ne_eqb b k (λ e. omega arith) in
    rw (kind_of, n 91 (omega arith), n 40 (omega arith), n 123 (omega arith), n 45 (omega arith), n 84 (omega arith), n 70 (omega arith), n 78 (omega arith), n 39 (omega arith), n 34 (omega arith), digit_past b h)

pub quote_past : (s : List ℕ) (at : ℕ) → length s ≤ at → false ≡ is_quote (byte_at s at)
unfolding is_quote
quote_past s at h = rw (get_or-eq_default s 256 h)
