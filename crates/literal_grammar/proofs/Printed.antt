-- PRINTING AND READING AGREE: what a layout prints, with any blanks after it, gives the layout's value by the grammar (`print_gives`), and so is
-- read as it, within any limit that the value is within (`print_reads`). A layout prints one text u in front of whatever follows, and u is derived
-- along the layout.
use Prim.Native.Nat.{ℕ, zero, suc, ◌+◌, ◌*◌, ◌-◌, ◌/◌, ◌%◌, ◌<◌, ◌≤◌}
use native.Mathlib.Omega.{arith}
use mathlib.Core.Path.{◌≡◌, refl, sym, ap, ◌∙◌, subst}
use mathlib.Core.Logic.{◌⊎◌, inl, inr}
use mathlib.Core.List.{List, [], ◌∷◌, ◌++◌, append_assoc, append-nil}
use mathlib.Core.Bool.{Bool, true, false}
use lib.Dec.{eqb}
use borrow.Author.Tests.{eqb-true, ne_eqb, le-leb}
use Rattle.counts.proofs.Alike.{true_false}
use Rattle.decimal.specs.Decimal.{is_digit, decimal_from, printed}
use Rattle.decimal.proofs.Prints.{by_tens, printed_low, printed_high, printed_front}
use Rattle.literal_grammar.specs.Bytes.{is_blank, is_quote, is_break, is_escape, unescape}
use Rattle.literal_grammar.specs.Value.{Value, Values, Items, Within}
use Rattle.literal_grammar.specs.Grammar.{Natural, nought, nonzero, Quoted, closed, raw, escaped, in_quotes, unsigned, word_true, word_false, Gives, plain, around, in_square, in_round, in_braces, Listed, no_values, last_value, value_comma, no_elements, element_comma, Paired, no_items, last_item, item_comma}
use Rattle.literal_grammar.specs.Promise.{got}
use Rattle.literal_grammar.specs.Print.{Layout, quote, number, word, square, unit, round, braces, Row, ended, last, more, Pairs, no_more, pair, spaces, escape_of, spelled_byte, escapes, print, print_row, print_pairs, value_of, values_of, items_of}
use Rattle.literal_grammar.proofs.Texts.{case_of, Blanks, all_append}
use Rattle.literal_grammar.proofs.Reading.{literal}
use Rattle.literal_grammar.proofs.Whole.{complete}

-- what f prints in front of any rest is one text, of which R holds
abbrev Prints : (List ℕ → List ℕ) → (List ℕ → Type 0) → Type 0
Prints f R = (u : List ℕ) × ((r : List ℕ) → f r ≡ u ++ r) × R u

-- ---- numbers
digit_at : (n : ℕ) → n < 10 → is_digit (48 + n) ≡ true
unfolding is_digit
digit_at n h = let lo : 48 ≤ 48 + n = omega arith in let hi : 48 + n ≤ 57 = omega arith in rw (is_digit, le-leb 48 (48 + n) lo, le-leb (48 + n) 57 hi)

one_digit : (n : ℕ) → n < 10 → Natural ((48 + n) ∷ []) n
unfolding decimal_from
one_digit zero h = nought
one_digit (suc n) h =
    let e : 10 * 0 + (48 + suc n - 48) ≡ suc n = omega arith in
    subst (Natural ((48 + suc n) ∷ [])) e (nonzero (digit_at (suc n) h) (ne_eqb (48 + suc n) 48 (λ e. omega arith)) tt)

decimal_after : (u : List ℕ) (m x : ℕ) → decimal_from m (u ++ (x ∷ [])) ≡ 10 * decimal_from m u + (x - 48)
unfolding decimal_from
decimal_after [] m x = refl
decimal_after (d ∷ u) m x = decimal_after u (10 * m + (d - 48)) x

digit_after : (u : List ℕ) (n x : ℕ) → 1 ≤ n → Natural u n → is_digit x ≡ true → Natural (u ++ (x ∷ [])) (10 * n + (x - 48))
digit_after u n x h nought hx = absurd (omega arith)
digit_after u n x h (nonzero {d = d} {u = w} hd nd hw) hx = subst (Natural (d ∷ (w ++ (x ∷ [])))) (decimal_after (d ∷ w) 0 x) (nonzero hd nd (all_append is_digit w (x ∷ []) hw (hx, tt)))

natural_printed : (n : ℕ) → Natural (printed n []) n
natural_printed = by_tens (λ n. Natural (printed n []) n) (λ n h. subst (λ y. Natural y n) (sym (printed_low n [] h)) (one_digit n h))
    (λ n h ih.
    let x : ℕ = 48 + n % 10 in
    let text : printed (n / 10) [] ++ (x ∷ []) ≡ printed n [] = sym (printed_high n [] h ∙ printed_front (n / 10) (x ∷ [])) in
    let same : 10 * (n / 10) + (x - 48) ≡ n = omega arith in
    subst (λ y. Natural y n) text (subst (Natural (printed (n / 10) [] ++ (x ∷ []))) same (digit_after (printed (n / 10) []) (n / 10) x (omega arith) ih (digit_at (n % 10) (omega arith)))))

-- ---- strings
abbrev Spelt : ℕ → Type 0
Spelt b = (p : List ℕ) × ((r : List ℕ) → spelled_byte (escape_of b) b r ≡ p ++ r) × ((u w : List ℕ) → Quoted 39 u w → Quoted 39 (p ++ u) (b ∷ w))

spelled_letter : (l b : ℕ) (r : List ℕ) → is_escape l ≡ true → spelled_byte l b r ≡ 92 ∷ l ∷ r
unfolding is_escape
spelled_letter zero b r h = true_false (sym h)
spelled_letter (suc c) b r h = refl

-- the letter of its escape means the byte
by_letter : (b : ℕ) → is_escape (escape_of b) ≡ true → unescape (escape_of b) ≡ b → Spelt b
by_letter b ok back = (92 ∷ escape_of b ∷ [], λ r. spelled_letter (escape_of b) b r ok, λ u w x. subst (λ y. Quoted 39 (92 ∷ escape_of b ∷ u) (y ∷ w)) back (escaped ok x))

by_itself : (b : ℕ) → eqb b 92 ≡ false → eqb b 39 ≡ false → eqb b 13 ≡ false → eqb b 10 ≡ false → Spelt b
unfolding escape_of is_break
by_itself b n1 n2 n3 n4 = (b ∷ [], λ r. let e : escape_of b ≡ 0 = rw (escape_of, n1, n2, n3, n4) in ap (λ l. spelled_byte l b r) e, λ u w x. let nb : is_break b ≡ false = rw (is_break, n4, n3) in raw n2 n1 nb x)

spelt : (b : ℕ) → Spelt b
unfolding escape_of is_escape unescape
spelt b = by_slash (case_of (eqb b 92))
  where
    as_at : (n : ℕ) → Spelt n → eqb b n ≡ true → Spelt b
    as_at n x h = subst Spelt (sym (eqb-true b n h)) x

    by_lf : eqb b 92 ≡ false → eqb b 39 ≡ false → eqb b 13 ≡ false → (eqb b 10 ≡ true) ⊎ (eqb b 10 ≡ false) → Spelt b
    by_lf n1 n2 n3 (inl h) = as_at 10 (by_letter 10 refl refl) h
    by_lf n1 n2 n3 (inr n4) = by_itself b n1 n2 n3 n4

    by_cr : eqb b 92 ≡ false → eqb b 39 ≡ false → (eqb b 13 ≡ true) ⊎ (eqb b 13 ≡ false) → Spelt b
    by_cr n1 n2 (inl h) = as_at 13 (by_letter 13 refl refl) h
    by_cr n1 n2 (inr n3) = by_lf n1 n2 n3 (case_of (eqb b 10))

    by_quote : eqb b 92 ≡ false → (eqb b 39 ≡ true) ⊎ (eqb b 39 ≡ false) → Spelt b
    by_quote n1 (inl h) = as_at 39 (by_letter 39 refl refl) h
    by_quote n1 (inr n2) = by_cr n1 n2 (case_of (eqb b 13))

    by_slash : (eqb b 92 ≡ true) ⊎ (eqb b 92 ≡ false) → Spelt b
    by_slash (inl h) = as_at 92 (by_letter 92 refl refl) h
    by_slash (inr n1) = by_quote n1 (case_of (eqb b 39))

-- up to the closing quote
string_printed : (w : List ℕ) → Prints (λ r. escapes w (39 ∷ r)) (λ u. Quoted 39 u w)
string_printed [] = (39 ∷ [], λ r. refl, closed)
string_printed (b ∷ w) =
    let (u, e, x) = string_printed w in
    let (p, f, on) = spelt b in
    (p ++ u, λ r. f (escapes w (39 ∷ r)) ∙ ap (λ y. p ++ y) (e r) ∙ sym (append_assoc p u r), on u w x)

-- ---- blanks in front of what is between brackets
spaces_front : (n : ℕ) (r : List ℕ) → spaces n r ≡ spaces n [] ++ r
spaces_front zero r = refl
spaces_front (suc n) r = ap (λ y. 32 ∷ y) (spaces_front n r)

spaces_blank : (n : ℕ) → Blanks (spaces n [])
unfolding is_blank
spaces_blank zero = tt
spaces_blank (suc n) = (refl, spaces_blank n)

gives_after : (a : List ℕ) {u : List ℕ} {v : Value} → Blanks a → Gives u v → Gives (a ++ u) v
gives_after a {u = u} ba g = around a u [] (sym (append-nil (a ++ u))) ba g tt

listed_after : (a : List ℕ) {u : List ℕ} {vs : Values} → Blanks a → Listed u vs → Listed (a ++ u) vs
listed_after a ba (no_values {u = u} bu) = no_values (all_append is_blank a u ba bu)
listed_after a ba (last_value g) = last_value (gives_after a ba g)
listed_after a ba (value_comma u w e g i) = value_comma (a ++ u) w (ap (λ y. a ++ y) e ∙ sym (append_assoc a u (44 ∷ w))) (gives_after a ba g) i

paired_after : (a : List ℕ) {u : List ℕ} {es : Items} → Blanks a → Paired u es → Paired (a ++ u) es
paired_after a ba (no_items {u = u} bu) = no_items (all_append is_blank a u ba bu)
paired_after a ba (last_item x y e g f) = last_item (a ++ x) y (ap (λ z. a ++ z) e ∙ sym (append_assoc a x (58 ∷ y))) (gives_after a ba g) f
paired_after a ba (item_comma x y w e g f i) = item_comma (a ++ x) y w (ap (λ z. a ++ z) e ∙ simp append_assoc) (gives_after a ba g) f i

-- ---- layouts
-- one text, a byte, spaces, and another text
joined : (f g : List ℕ → List ℕ) (c n : ℕ) (u w : List ℕ) → ((r : List ℕ) → f r ≡ u ++ r) → ((r : List ℕ) → g r ≡ w ++ r) → (r : List ℕ) → f (c ∷ spaces n (g r)) ≡ (u ++ c ∷ (spaces n [] ++ w)) ++ r
joined f g c n u w ef eg r = ef (c ∷ spaces n (g r)) ∙ ap (λ y. u ++ c ∷ y) (spaces_front n (g r) ∙ ap (λ y. spaces n [] ++ y) (eg r)) ∙ simp append_assoc

-- in brackets
enclosed : (f : List ℕ → List ℕ) (o c : ℕ) (u : List ℕ) → ((r : List ℕ) → f r ≡ u ++ r) → (r : List ℕ) → o ∷ f (c ∷ r) ≡ (o ∷ u ++ c ∷ []) ++ r
enclosed f o c u e r = ap (λ y. o ∷ y) (e (c ∷ r) ∙ sym (append_assoc u (c ∷ []) r))

quote_printed : (w : List ℕ) → Prints (print (quote w)) (λ u. Gives u (value_of (quote w)))
unfolding is_quote
quote_printed w = let (u, e, x) = string_printed w in (39 ∷ u, λ r. ap (λ y. 39 ∷ y) (e r), plain (in_quotes refl x))

word_printed : (b : Bool) → Prints (print (word b)) (λ u. Gives u (value_of (word b)))
word_printed true = (84 ∷ 114 ∷ 117 ∷ 101 ∷ [], λ r. refl, plain word_true)
word_printed false = (70 ∷ 97 ∷ 108 ∷ 115 ∷ 101 ∷ [], λ r. refl, plain word_false)

mutual
  layout_printed : (d : Layout) → Prints (print d) (λ u. Gives u (value_of d))
  layout_printed (quote w) = quote_printed w
  layout_printed (number n) = (printed n [], printed_front n, plain (unsigned (natural_printed n)))
  layout_printed (word b) = word_printed b
  layout_printed (square ds) = let (u, e, i) = row_printed ds in (91 ∷ u ++ 93 ∷ [], enclosed (print_row ds) 91 93 u e, in_square u refl i)
  layout_printed unit = (40 ∷ 41 ∷ [], λ r. refl, in_round [] refl (no_elements tt))
  layout_printed (round d n ds) =
      let (u, eu, g) = layout_printed d in
      let (w, ew, i) = row_printed ds in
      let t : List ℕ = u ++ 44 ∷ (spaces n [] ++ w) in
      (40 ∷ t ++ 41 ∷ [], enclosed (λ r. print d (44 ∷ spaces n (print_row ds r))) 40 41 t (joined (print d) (print_row ds) 44 n u w eu ew), in_round t refl (element_comma u (spaces n [] ++ w) refl g (listed_after (spaces n []) (spaces_blank n) i)))
  layout_printed (braces es) = let (u, e, i) = pairs_printed es in (123 ∷ u ++ 125 ∷ [], enclosed (print_pairs es) 123 125 u e, in_braces u refl i)

  row_printed : (ds : Row) → Prints (print_row ds) (λ u. Listed u (values_of ds))
  row_printed ended = ([], λ r. refl, no_values tt)
  row_printed (last d) = let (u, e, g) = layout_printed d in (u, e, last_value g)
  row_printed (more d n ds) =
      let (u, eu, g) = layout_printed d in
      let (w, ew, i) = row_printed ds in
      (u ++ 44 ∷ (spaces n [] ++ w), joined (print d) (print_row ds) 44 n u w eu ew, value_comma u (spaces n [] ++ w) refl g (listed_after (spaces n []) (spaces_blank n) i))

  pairs_printed : (es : Pairs) → Prints (print_pairs es) (λ u. Paired u (items_of es))
  pairs_printed no_more = ([], λ r. refl, no_items tt)
  pairs_printed (pair k m d n es) =
      let (x, ex, g) = layout_printed k in
      let (y, ey, h) = layout_printed d in
      let (w, ew, i) = pairs_printed es in
      let t : List ℕ = y ++ 44 ∷ (spaces n [] ++ w) in
      let parts : x ++ 58 ∷ (spaces m [] ++ t) ≡ x ++ 58 ∷ (spaces m [] ++ y) ++ 44 ∷ (spaces n [] ++ w) = simp append_assoc in (
        x ++ 58 ∷ (spaces m [] ++ t),
        joined (print k) (λ r. print d (44 ∷ spaces n (print_pairs es r))) 58 m x t ex (joined (print d) (print_pairs es) 44 n y w ey ew),
        item_comma x (spaces m [] ++ y) (spaces n [] ++ w) parts g (gives_after (spaces m []) (spaces_blank m) h) (paired_after (spaces n []) (spaces_blank n) i),
      )

-- THE LAW
pub print_gives : (d : Layout) (r : List ℕ) → Blanks r → Gives (print d r) (value_of d)
print_gives d r br = let (u, e, g) = layout_printed d in around [] u r (e r) tt g br

pub print_reads : (k : ℕ) (d : Layout) (r : List ℕ) → Blanks r → Within (value_of d) k → literal k (print d r) ≡ got (value_of d) []
print_reads k d r br h = complete k (print d r) (value_of d) (print_gives d r br, h)

-- what follows a layout is not touched
pub print_front : (d : Layout) (r : List ℕ) → print d r ≡ print d [] ++ r
print_front d r = let (u, e, g) = layout_printed d in e r ∙ ap (λ y. y ++ r) (sym (append-nil u) ∙ sym (e []))
