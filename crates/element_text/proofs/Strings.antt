-- Strings between quotes: a byte, a code point, and the code points of a run one after another.
use Rattle.std.specs.Prelude.{Err, Ok, Result}
use Prim.Native.Nat.{ℕ, ◌+◌, ◌*◌, ◌<◌, ◌≤◌}
use native.Mathlib.Omega.{arith}
use mathlib.Core.Path.{◌≡◌, refl, sym, ap, subst, ◌∙◌}
use mathlib.Core.Bool.{Bool, true, false, not, ◌&&◌, ◌||◌}
use mathlib.Core.Logic.{⊎_elim}
use mathlib.Core.List.{List, ◌∷◌, ◌++◌}
use lib.Dec.{eqb, ltb, leb}
use lib.ListN.{length, get_or, take, drop, length-append}
use lib.Seq.{take-append_seam, length-take-le, get_or-take}
use borrow.Author.Tests.{lt-ltb, le-ltb}
use Rattle.counts.specs.Outcome.{Outcome, gives, each, unless, afterwards}
use Rattle.counts.specs.Lists.{at_front}
use Rattle.counts.specs.declared.Bytes.{Bytes}
use Rattle.counts.proofs.Apart.{gives_apart, gives_refused, refused_gives}
use Rattle.counts.proofs.Sides.{lt_or_ge}
use Rattle.refusal.specs.declared.Refusal.{Refusal}
use Rattle.refusal.specs.Answers.{bytes_answer}
use Rattle.emit.specs.Emits.{Emits}
use Rattle.emit.proofs.Pieces.{emits_then, emits_same, Left, left_more, left_end}
use Rattle.utf8_scalar.specs.Scalar.{is_scalar}
use Rattle.utf8_scalar.specs.Encode.{encode}
use Rattle.utf8_scalar.specs.Answer.{encoding, Encodes}
use Rattle.utf8_scalar.proofs.Encoding.{row_one, row_two, row_three, row_four}
use Rattle.utf8_scalar.proofs.Writing.{encoding_fits}
use Rattle.number_bytes.specs.Numbers.{in_order}
use Rattle.type_letters.specs.declared.Endianness.{Endianness}
use Rattle.string_value.specs.Elements.{scalar, point, points, found}
use Rattle.string_value.proofs.Scalars.{found_at}
use Rattle.element_text.specs.Hexadecimal.{hex_digits}
use Rattle.element_text.specs.Text.{all_text, byte_text, point_text}

-- ---- a byte
module _ (b : ℕ) (old : List ℕ) (at : ℕ) (out : List ℕ) (q : ℕ) where
  pub byte_plain : (eqb b 92 || eqb b 39) ≡ false → (leb 0x20 b && leb b 0x7E) ≡ true → Emits (λ x. b ∷ x) old at out q → Emits (byte_text b) old at out q
  unfolding byte_text
  byte_plain h k a = emits_same (λ x. b ∷ x) (byte_text b) old at out q (λ x. rw (byte_text, h, k)) a

  module _ (mid : List ℕ) (p : ℕ) where
    pub byte_quoted : (eqb b 92 || eqb b 39) ≡ true → Emits (λ x. 92 ∷ x) old at mid p → Emits (λ x. b ∷ x) mid p out q → Emits (byte_text b) old at out q
    unfolding byte_text
    byte_quoted h a d = emits_same (λ x. 92 ∷ b ∷ x) (byte_text b) old at out q (λ x. rw (byte_text, h)) (emits_then (λ x. 92 ∷ x) (λ x. b ∷ x) old at mid p out q a d)

    pub byte_hex : (eqb b 92 || eqb b 39) ≡ false → (leb 0x20 b && leb b 0x7E) ≡ false → Emits (λ x. 92 ∷ 120 ∷ x) old at mid p → Emits (hex_digits 2 b) mid p out q
        → Emits (byte_text b) old at out q
    unfolding byte_text
    byte_hex h k a d =
        emits_same (λ x. 92 ∷ 120 ∷ hex_digits 2 b x) (byte_text b) old at out q (λ x. rw (byte_text, h, k)) (emits_then (λ x. 92 ∷ 120 ∷ x) (hex_digits 2 b) old at mid p out q a d)

-- ---- a code point
module _ (c : ℕ) (old : List ℕ) (at : ℕ) (out : List ℕ) (p : ℕ) where
  pub point_low : c < 0xA0 → Emits (byte_text c) old at out p → Emits (point_text c) old at out p
  unfolding point_text
  point_low h a = emits_same (byte_text c) (point_text c) old at out p (λ x. rw (point_text, lt-ltb c 0xA0 h)) a

  pub point_high : 0xA0 ≤ c → (bytes : List ℕ) → bytes ≡ encode c → Emits (λ x. bytes ++ x) old at out p → Emits (point_text c) old at out p
  unfolding point_text
  point_high h bytes e a = emits_same (λ x. bytes ++ x) (point_text c) old at out p (λ x. rw (point_text, le-ltb c 0xA0 h, e)) a

pub encode_few : (c : ℕ) → length (encode c) ≤ 4
encode_few c =
    ⊎_elim (λ a. omega (arith, ap length (row_one c a)))
    (λ a. ⊎_elim (λ b. omega (arith, ap length (row_two c a b)))
    (λ b. ⊎_elim (λ d. omega (arith, ap length (row_three c b d))) (λ d. omega (arith, ap length (row_four c d))) (lt_or_ge c 0x10000)) (lt_or_ge c 0x800))
    (lt_or_ge c 0x80)

-- four bytes are enough for any code point
module _ (c : ℕ) (room room' : List ℕ) (s : is_scalar c ≡ true) (four : 4 ≤ length room) where
  encodes : encoding c room ≡ gives (encode c)
  encodes = encoding_fits c room s (omega (arith, encode_few c, four))

  pub encoded_always : {A : Type 0} (why : Refusal) (r : Result Bytes Refusal) → Encodes c room r room' → r ≡ Err why → A
  encoded_always why r w e = refused_gives (sym (ap bytes_answer e) ∙ w.answered ∙ ap (each length) encodes)

  -- as many bytes as are answered are the code point's
  pub record Encoded (n : Bytes) : Type 0 where
    pub few : n.0 ≤ 4
    pub inside : n.0 ≤ length room'
    pub is : take n.0 room' ≡ encode c

  pub encoded : (n : Bytes) (r : Result Bytes Refusal) → Encodes c room r room' → r ≡ Ok n → Encoded n
  encoded n r w e =
      let long : n.0 ≡ length (encode c) = gives_apart (sym (ap bytes_answer e) ∙ w.answered ∙ ap (each length) encodes) in
      let after : room' ≡ encode c ++ drop (length (encode c)) room = w.room_after ∙ ap (λ (o : Outcome (List ℕ)). afterwards at_front o room) encodes in
      record {
        few = omega (arith, long, encode_few c);
        inside = omega (arith, long, ap length after, length-append (encode c) (drop (length (encode c)) room));
        is = ap (λ (k : ℕ). take k room') long ∙ ap (take (length (encode c))) after ∙ take-append_seam (encode c) (drop (length (encode c)) room);
      }

-- ---- the code points of a run
pub point_scalar : (order : Endianness) (run : List ℕ) (c : ℕ) → point order run ≡ gives c → is_scalar c ≡ true
unfolding point scalar
point_scalar order run c e = go (ltb (length run) 4) e
  where
    each_one : (n : ℕ) (b : Bool) → is_scalar n ≡ b → unless (not b) 29 (gives n) ≡ gives c → is_scalar c ≡ true
    each_one n true h e = subst (λ (m : ℕ). is_scalar m ≡ true) (gives_apart e) h
    each_one n false h e = gives_refused (sym e)

    go : (b : Bool) → unless b 29 (scalar (in_order order (take 4 run))) ≡ gives c → is_scalar c ≡ true
    go true e = gives_refused (sym e)
    go false e = each_one (in_order order (take 4 run)) (is_scalar (in_order order (take 4 run))) refl e

-- the first n of them, one after another: i are put, the next is in the four bytes from 4 * i on
module _ (order : Endianness) (run : List ℕ) (n : ℕ) (enough : n ≤ length (found (points order run))) where
  taken : length (take n (found (points order run))) ≡ n
  taken = length-take-le n (found (points order run)) enough

  abbrev pub Turn : (old : List ℕ) (at : ℕ) (out : List ℕ) (p i : ℕ) → Type 0
  Turn old at out p i = Left (all_text point_text) (take n (found (points order run))) old at out p i

  module _ (old : List ℕ) (at : ℕ) (out : List ℕ) (p i : ℕ) (t : Turn old at out p i) where
    pub turn_more : i < n → (out' : List ℕ) (p' c : ℕ) → point order (drop (4 * i) run) ≡ gives c → Emits (point_text c) out p out' p' → Turn old at out' p' (i + 1)
    turn_more lt out' p' c e h =
        let same : c ≡ get_or (take n (found (points order run))) i 0 =
        gives_apart (sym e ∙ (found_at order run i (omega (arith, enough))).is ∙ ap gives (sym (get_or-take n (found (points order run)) i 0 lt))) in
        left_more point_text (all_text point_text) (λ x. refl) (λ c s x. refl) (take n (found (points order run))) old at out p i out' p' t (omega (arith, taken))
        (subst (λ (d : ℕ). Emits (point_text d) out p out' p') same h)

    pub turn_end : n ≤ i → Emits (all_text point_text (take n (found (points order run)))) old at out p
    turn_end ge = left_end point_text (all_text point_text) (λ x. refl) (λ c s x. refl) (take n (found (points order run))) old at out p i t (omega (arith, taken))
