-- The numbers of a text: whether it is a list, byte by byte, and each number put after the others. What is left of the text gives, after what was read, what the whole gives.
use Prim.Native.Nat.{ℕ, zero, suc, ◌+◌, ◌*◌, ◌-◌, ◌^◌, ◌<◌, ◌≤◌, min}
use native.Mathlib.Omega.{arith}
use native.Mathlib.Numerals.{add-one}
use mathlib.Core.Path.{◌≡◌, refl, sym, ap, subst, ◌∙◌}
use mathlib.Core.Bool.{Bool, true, false, cond, ◌&&◌, ◌||◌, and-true, and-false}
use mathlib.Core.List.{List, [], ◌∷◌}
use lib.Dec.{eqb}
use lib.Pointwise.{pointwise}
use lib.ListN.{length, get_or, take, drop, set, drop_of_length-le, length-take}
use lib.Seq.{sets, drop-cons}
use borrow.Author.Tests.{eq-eqb, ne_eqb}
use Rattle.counts.specs.Outcome.{Outcome, gives, refused}
use Rattle.counts.specs.Number.{capped}
use Rattle.counts.specs.Lists.{same, at_front}
use Rattle.counts.specs.Owes.{Owes}
use Rattle.counts.proofs.Alike.{true_false, false_true}
use Rattle.emit.specs.Emits.{Emits}
use Rattle.emit.proofs.Pieces.{emits_none, emits_same, emits_length}
use Rattle.std.specs.Char.{is_ascii_digit}
use Rattle.decimal.specs.Decimal.{is_digit}
use Rattle.get_file.specs.Numbers.{is_list, list_numbers, numbers_from, numbers_in}
use Rattle.get_file.specs.Puts.{PutsListed}

-- ---- whether a text is a list
pub record Checking (text : List ℕ) (digit : Bool) (i : ℕ) : Type 0 where
  pub inside : i ≤ length text
  pub left : is_list false text ≡ is_list digit (drop i text)

module _ (text : List ℕ) (digit : Bool) (i : ℕ) (c : Checking text digit i) where
  pub checking_end : length text ≤ i → digit ≡ is_list false text
  unfolding is_list
  checking_end ge = sym (c.left ∙ ap (is_list digit) (drop_of_length-le text ge))

  module _ (lt : i < length text) where
    here : is_list digit (drop i text) ≡ cond (is_digit (get_or text i 0)) (is_list true (drop (suc i) text)) (digit && eqb (get_or text i 0) 44 && is_list false (drop (suc i) text))
    unfolding is_list
    here = ap (is_list digit) (drop-cons text i 0 lt)

    -- by the byte
    at_byte : (d : Bool) → is_digit (get_or text i 0) ≡ d → is_list false text ≡ cond d (is_list true (drop (suc i) text)) (digit && eqb (get_or text i 0) 44 && is_list false (drop (suc i) text))
    at_byte d e =
        c.left ∙ here ∙ ap (λ (t : Bool). cond t (is_list true (drop (suc i) text)) (digit && eqb (get_or text i 0) 44 && is_list false (drop (suc i) text))) e

    pub checking_wrong : (is_digit (get_or text i 0) || digit && eqb (get_or text i 0) 44) ≡ false → false ≡ is_list false text
    checking_wrong h = go (is_digit (get_or text i 0)) digit (eqb (get_or text i 0) 44) (at_byte (is_digit (get_or text i 0)) refl) h
      where
        go : (d e t : Bool) → is_list false text ≡ cond d (is_list true (drop (suc i) text)) (e && t && is_list false (drop (suc i) text)) → (d || e && t) ≡ false → false ≡ is_list false text
        go true e t k h = true_false h
        go false true true k h = true_false h
        go false true false k h = sym k
        go false false t k h = sym k

    pub checking_more : (next : Bool) → (is_digit (get_or text i 0) || digit && eqb (get_or text i 0) 44) ≡ true → next ≡ is_digit (get_or text i 0) → Checking text next (i + 1)
    checking_more next h e = record { inside = omega arith; left = rw (add-one i) (go next digit (eqb (get_or text i 0) 44) (at_byte next (sym e)) (subst (λ (d : Bool). (d || digit && eqb (get_or text i 0) 44) ≡ true) (sym e) h)) }
      where
        go : (d e t : Bool) → is_list false text ≡ cond d (is_list true (drop (suc i) text)) (e && t && is_list false (drop (suc i) text)) → (d || e && t) ≡ true
            → is_list false text ≡ is_list d (drop (suc i) text)
        go true e t k h = k
        go false true true k h = k
        go false true false k h = false_true h
        go false false t k h = false_true h

-- ---- each number after the others: n is the number that the digits so far write, `value` without its cap
pub record Listing (text old out : List ℕ) (count n i : ℕ) : Type 0 where
  pub inside : i ≤ length text
  pub same_length : length out ≡ length old
  pub value : ℕ
  pub is_value : n ≡ capped value
  pub stored : sets out count (list_numbers value (drop i text)) ≡ sets old 0 (list_numbers 0 text)
  pub counted : capped (count + length (list_numbers value (drop i text))) ≡ capped (length (list_numbers 0 text))

module _ (text old out : List ℕ) (count n i : ℕ) (l : Listing text old out count n i) where
  module _ (out' : List ℕ) (count' : ℕ) (w : Emits (λ x. n ∷ x) out count out' count') where
    pub listing_end : length text ≤ i → PutsListed text old out' count'
    unfolding list_numbers
    listing_end ge =
        let last : list_numbers l.value (drop i text) ≡ n ∷ [] = ap (list_numbers l.value) (drop_of_length-le text ge) ∙ ap (λ (m : ℕ). m ∷ []) (sym l.is_value) in
        record {
          stored = w.stored [] ∙ ap (sets out count) (sym last) ∙ l.stored;
          counted = ap capped (omega arith) ∙ w.after [] ∙ ap (λ (m : List ℕ). capped (count + length m)) (sym last) ∙ l.counted;
        }

  -- a byte more
  pub listing_more : (out' : List ℕ) (count' n' : ℕ) → i < length text → Emits (λ x. cond (eqb (get_or text i 0) 44) (n ∷ x) x) out count out' count'
      → n' ≡ cond (eqb (get_or text i 0) 44) 0 (capped (10 * n + (get_or text i 0 - 48))) → Listing text old out' count' n' (i + 1)
  unfolding list_numbers
  listing_more out' count' n' lt w e =
      let b = get_or text i 0 in
      let rest = drop (suc i) text in
      let value = cond (eqb b 44) 0 (10 * l.value + (b - 48)) in
      let next : list_numbers l.value (drop i text) ≡ cond (eqb b 44) (n ∷ list_numbers value rest) (list_numbers value rest) =
      ap (list_numbers l.value) (drop-cons text i 0 lt) ∙ here (eqb b 44) in
      record {
        inside = omega arith;
        same_length = emits_length _ out count out' count' w ∙ l.same_length;
        value = value;
        is_value = e ∙ capped_value (eqb b 44);
        stored = rw (add-one i) (w.stored (list_numbers value rest) ∙ ap (sets out count) (sym next) ∙ l.stored);
        counted = rw (add-one i) (w.after (list_numbers value rest) ∙ ap (λ (m : List ℕ). capped (count + length m)) (sym next) ∙ l.counted);
      }
    where
      here : (t : Bool)
          → cond t (capped l.value ∷ list_numbers 0 (drop (suc i) text)) (list_numbers (10 * l.value + (get_or text i 0 - 48)) (drop (suc i) text))
          ≡ cond t (n ∷ list_numbers (cond t 0 (10 * l.value + (get_or text i 0 - 48))) (drop (suc i) text)) (list_numbers (cond t 0 (10 * l.value + (get_or text i 0 - 48))) (drop (suc i) text))
      here true = ap (λ (m : ℕ). m ∷ list_numbers 0 (drop (suc i) text)) (sym l.is_value)
      here false = refl

      capped_value : (t : Bool) → cond t 0 (capped (10 * n + (get_or text i 0 - 48))) ≡ capped (cond t 0 (10 * l.value + (get_or text i 0 - 48)))
      capped_value true = omega arith
      capped_value false = omega (arith, l.is_value)

-- ---- as many as there is room for
sets_cons : (v : ℕ) (old : List ℕ) (i : ℕ) (l : List ℕ) → sets (v ∷ old) (suc i) l ≡ v ∷ sets old i l
sets_cons v old i [] = refl
sets_cons v old i (w ∷ l) = sets_cons v (set old i w) (suc i) l

sets_none : (i : ℕ) (l : List ℕ) → sets [] i l ≡ []
sets_none i [] = refl
sets_none i (w ∷ l) = sets_none (suc i) l

sets_front : (l old : List ℕ) → sets old 0 l ≡ at_front (take (length old) l) old
sets_front [] [] = refl
sets_front [] (o ∷ old) = refl
sets_front (v ∷ l) [] = sets_none 0 (v ∷ l)
sets_front (v ∷ l) (o ∷ old) = sets_cons v old 0 l ∙ ap (λ (m : List ℕ). v ∷ m) (sets_front l old)

module _ (text room : List ℕ) where
  pub none_listed : same text (45 ∷ []) ≡ true → Owes (numbers_in text room) room (gives 0) room
  unfolding numbers_from
  none_listed e =
      let is : gives [] ≡ numbers_in text room = rw (numbers_from, e) (ap gives (take_none (length room))) in
      subst (λ (o : Outcome (List ℕ)). Owes o room (gives 0) room) is (record { answered = refl; room_after = refl })
    where
      take_none : (k : ℕ) → ◌≡◌ {A = List ℕ} [] (take k [])
      take_none zero = refl
      take_none (suc k) = refl

  module _ (e : same text (45 ∷ []) ≡ false) where
    pub no_list : is_list false text ≡ false → Owes (numbers_in text room) room (refused 0) room
    unfolding numbers_from
    no_list f =
        let is : refused 0 ≡ numbers_in text room = rw (numbers_from, e, f) in
        subst (λ (o : Outcome (List ℕ)). Owes o room (refused 0) room) is (record { answered = refl; room_after = refl })

    module _ (f : is_list false text ≡ true) where
      is_list_lem : gives (take (length room) (list_numbers 0 text)) ≡ numbers_in text room
      unfolding numbers_from
      is_list_lem = rw (numbers_from, e, f)

      owes : (out : List ℕ) (k : ℕ) → k ≡ length (take (length room) (list_numbers 0 text)) → out ≡ sets room 0 (list_numbers 0 text) → Owes (numbers_in text room) room (gives k) out
      owes out k g h = subst (λ (o : Outcome (List ℕ)). Owes o room (gives k) out) is_list_lem (record { answered = ap gives g; room_after = h ∙ sets_front (list_numbers 0 text) room })

      module _ (out : List ℕ) (count : ℕ) (w : PutsListed text room out count) (fits : count < 2 ^ 64) (short : length room < 2 ^ 64 - 1) where
        pub listed : (k : ℕ) → k ≡ min count (length room) → Owes (numbers_in text room) room (gives k) out
        listed k e = owes out k (e ∙ sym (rw length-take (omega (arith, w.counted)))) w.stored

-- ---- `-`
pub dash_is : (text : List ℕ) → pointwise eqb text (45 ∷ []) ≡ same text (45 ∷ [])
dash_is [] = refl
dash_is (b ∷ []) = and-true (eqb b 45)
dash_is (b ∷ d ∷ text) = and-false (eqb b 45)

-- ---- a byte of a list
pub digit_is : (b : ℕ) (r : Bool) → r ≡ is_ascii_digit b → r ≡ is_digit b
unfolding is_digit
digit_is b r e = e

pub follows_digit : (b : ℕ) (digit t : Bool) → true ≡ is_ascii_digit b → true ≡ (is_digit b || digit && t)
follows_digit b digit t e = ap (λ (x : Bool). x || digit && t) (digit_is b true e)

pub follows_other : (b : ℕ) (digit t : Bool) (d : Bool) → false ≡ is_ascii_digit b → digit ≡ d → (d && t) ≡ (is_digit b || digit && t)
follows_other b digit t d e f = ap (λ (x : Bool). x && t) (sym f) ∙ ap (λ (x : Bool). x || digit && t) (digit_is b false e)

pub comma_yes : (b n : ℕ) (old : List ℕ) (at : ℕ) (out : List ℕ) (p : ℕ) → b ≡ 44 → Emits (λ x. n ∷ x) old at out p → Emits (λ x. cond (eqb b 44) (n ∷ x) x) old at out p
comma_yes b n old at out p e h =
    emits_same (λ x. n ∷ x) (λ x. cond (eqb b 44) (n ∷ x) x) old at out p (λ x. ap (λ (t : Bool). cond t (n ∷ x) x) (sym (eq-eqb b 44 e))) h

pub comma_no : (b n : ℕ) (old : List ℕ) (at : ℕ) → (b ≡ 44 → ⊥) → Emits (λ x. cond (eqb b 44) (n ∷ x) x) old at old at
comma_no b n old at e =
    emits_same (λ x. x) (λ x. cond (eqb b 44) (n ∷ x) x) old at old at (λ x. ap (λ (t : Bool). cond t (n ∷ x) x) (sym (ne_eqb b 44 e))) (emits_none old at)
