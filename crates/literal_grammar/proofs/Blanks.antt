-- ANY BLANKS AFTER A TEXT (`any_blanks`): where a text gives a value with some blanks after it, it gives the value with any others, or none. A value's own text ends in a byte
-- that is no blank, so the blanks at the end are none of its bytes.
use Prim.Native.Nat.{ℕ, ◌≤◌}
use native.Mathlib.Omega.{arith}
use mathlib.Core.Path.{◌≡◌, refl, sym, ap, subst, ◌∙◌}
use mathlib.Core.List.{List, [], ◌∷◌, ◌++◌, append_assoc, append-nil}
use mathlib.Core.Bool.{true, false}
use Rattle.counts.proofs.Alike.{true_false}
use Rattle.decimal.specs.Decimal.{is_digit}
use Rattle.decimal.proofs.Runs.{digit_low}
use Rattle.literal_grammar.specs.Bytes.{is_blank}
use Rattle.literal_grammar.specs.Value.{Value}
use Rattle.literal_grammar.specs.Grammar.{All, Natural, nought, nonzero, Quoted, closed, raw, escaped, Plain, in_quotes, unsigned, minus_sign, word_true, word_false, word_none, Gives, plain, around, in_square, in_round, in_braces}
use Rattle.literal_grammar.proofs.Texts.{Blanks, all_append, above_blanks, quote_by}

-- ---- texts that end in a byte that is no blank
record Solid (s : List ℕ) : Type 0 where
  front : List ℕ
  last : ℕ
  is : s ≡ front ++ last ∷ []
  no_blank : is_blank last ≡ false

ends : (s front : List ℕ) (last : ℕ) → 33 ≤ last → s ≡ front ++ last ∷ [] → Solid s
ends s front last h e = record { front = front; last = last; is = e; no_blank = above_blanks last h }

solid_after : (b : ℕ) {s : List ℕ} → Solid s → Solid (b ∷ s)
solid_after b x = record { front = b ∷ x.front; last = x.last; is = ap (λ y. b ∷ y) x.is; no_blank = x.no_blank }

digits_solid : (d : ℕ) (u : List ℕ) → is_digit d ≡ true → All is_digit u → Solid (d ∷ u)
digits_solid d [] h hs = ends (d ∷ []) [] d (omega (arith, digit_low d h)) refl
digits_solid d (b ∷ u) h hs = solid_after d (digits_solid b u hs.0 hs.1)

natural_solid : {u : List ℕ} {n : ℕ} → Natural u n → Solid u
natural_solid nought = ends (48 ∷ []) [] 48 (omega arith) refl
natural_solid (nonzero {d = d} {u = u} h z hs) = digits_solid d u h hs

quoted_solid : {q : ℕ} {u w : List ℕ} → 33 ≤ q → Quoted q u w → Solid u
quoted_solid {q} h closed = ends (q ∷ []) [] q h refl
quoted_solid h (raw {b = b} x y z u) = solid_after b (quoted_solid h u)
quoted_solid h (escaped {b = b} x u) = solid_after 92 (solid_after b (quoted_solid h u))

plain_solid : {s : List ℕ} {v : Value} → Plain s v → Solid s
plain_solid (in_quotes {q = q} h x) = solid_after q (quoted_solid (quote_by (λ c. 33 ≤ c) (omega arith) (omega arith) q h) x)
plain_solid (unsigned x) = natural_solid x
plain_solid (minus_sign x) = solid_after 45 (natural_solid x)
plain_solid word_true = ends _ (84 ∷ 114 ∷ 117 ∷ []) 101 (omega arith) refl
plain_solid word_false = ends _ (70 ∷ 97 ∷ 108 ∷ 115 ∷ []) 101 (omega arith) refl
plain_solid word_none = ends _ (78 ∷ 111 ∷ 110 ∷ []) 101 (omega arith) refl

-- ---- a text without the blanks around its value
record Trimmed (s : List ℕ) (v : Value) : Type 0 where
  before : List ℕ
  own : List ℕ
  after : List ℕ
  parts : s ≡ before ++ own ++ after
  blank_before : Blanks before
  given : Gives own v
  solid : Solid own
  blank_after : Blanks after

as_it_is : (s : List ℕ) {v : Value} → Gives s v → Solid s → Trimmed s v
as_it_is s g x = record { before = []; own = s; after = []; parts = sym (append-nil s); blank_before = tt; given = g; solid = x; blank_after = tt }

trimmed : {s : List ℕ} {v : Value} → Gives s v → Trimmed s v
trimmed {s} (plain x) = as_it_is s (plain x) (plain_solid x)
trimmed (around a x b e ba g bb) =
    let t = trimmed g in
    record {
      before = a ++ t.before;
      own = t.own;
      after = t.after ++ b;
      parts = e ∙ ap (λ y. a ++ y ++ b) t.parts ∙ simp append_assoc;
      blank_before = all_append is_blank a t.before ba t.blank_before;
      given = t.given;
      solid = t.solid;
      blank_after = all_append is_blank t.after b t.blank_after bb;
    }
trimmed {s} (in_square u e l) = as_it_is s (in_square u e l) (ends s (91 ∷ u) 93 (omega arith) e)
trimmed {s} (in_round u e l) = as_it_is s (in_round u e l) (ends s (40 ∷ u) 41 (omega arith) e)
trimmed {s} (in_braces u e l) = as_it_is s (in_braces u e l) (ends s (123 ∷ u) 125 (omega arith) e)

-- ---- blanks at the end are none of the bytes up to one that is no blank
not_among : (front : List ℕ) (last : ℕ) (after blanks : List ℕ) → is_blank last ≡ false → Blanks blanks → front ++ last ∷ after ≡ blanks → ⊥
not_among [] last after [] solid h e = let z : ◌≡◌ {A = ℕ} 0 1 = cc in omega arith
not_among [] last after (c ∷ blanks) solid h e =
    let same : last ≡ c = cc in true_false (sym (ap is_blank same ∙ h.0) ∙ solid)
not_among (f ∷ front) last after [] solid h e = let z : ◌≡◌ {A = ℕ} 0 1 = cc in omega arith
not_among (f ∷ front) last after (c ∷ blanks) solid h e = not_among front last after blanks solid h.1 cc

ahead : (front : List ℕ) (last : ℕ) (after text blanks : List ℕ) → is_blank last ≡ false → Blanks blanks → front ++ last ∷ after ≡ text ++ blanks
    → (rest : List ℕ) × (text ≡ front ++ last ∷ rest) × (after ≡ rest ++ blanks)
ahead front last after [] blanks solid h e = absurd (not_among front last after blanks solid h e)
ahead [] last after (t ∷ text) blanks solid h e = (text, cc, cc)
ahead (f ∷ front) last after (t ∷ text) blanks solid h e = let (rest, is, left) = ahead front last after text blanks solid h cc in (rest, cc, left)

all_front : (u w : List ℕ) → Blanks (u ++ w) → Blanks u
all_front [] w h = tt
all_front (b ∷ u) w h = (h.0, all_front u w h.1)

seam : (a f : List ℕ) (c : ℕ) (x b : List ℕ) → x ≡ f ++ c ∷ [] → a ++ x ++ b ≡ (a ++ f) ++ c ∷ b
seam a f c x b e = ap (λ y. a ++ y ++ b) e ∙ simp append_assoc

blanks_off : (text blanks : List ℕ) {v : Value} → Blanks blanks → Gives (text ++ blanks) v → Gives text v
blanks_off text blanks h g =
    let t = trimmed g in
    let x = t.solid in
    let (rest, is, left) =
    ahead (t.before ++ x.front) x.last t.after text blanks x.no_blank h (sym (seam t.before x.front x.last t.own t.after x.is) ∙ sym t.parts) in
    around t.before t.own rest (is ∙ sym (seam t.before x.front x.last t.own rest x.is)) t.blank_before t.given
    (all_front rest blanks (subst Blanks left t.blank_after))

-- OTHER BLANKS
pub any_blanks : (text blanks others : List ℕ) {v : Value} → Blanks blanks → Blanks others → Gives (text ++ blanks) v → Gives (text ++ others) v
any_blanks text blanks others hb ho g = around [] text others refl tt (blanks_off text blanks hb g) ho
