-- WHAT BYTES DECIDE, by cases: too few for a prefix, an incomplete length field, a refused prefix, a buffer that is too short, a part of the text, the whole text. Once the outcome has come, more bytes leave it.
use Prim.Native.Nat.{ℕ, zero, suc, ◌+◌, ◌<◌, ◌≤◌}
use native.Mathlib.Omega.{arith}
use mathlib.Core.Path.{◌≡◌, refl, ap, sym, ◌∙◌}
use mathlib.Core.Logic.{◌⊎◌, inl, inr, ⊎_elim}
use mathlib.Core.List.{List, [], ◌∷◌, ◌++◌}
use mathlib.Core.Bool.{Bool, true, false}
use lib.ListN.{length, take, drop, length-append}
use lib.Seq.{take-append-le}
use Rattle.counts.specs.Outcome.{Outcome, gives, refused, then}
use Rattle.counts.proofs.Sides.{lt_or_ge}
use Rattle.record.specs.Prefix.{text_start, Prefix, data_start_of, prefix}
use Rattle.record.specs.Rooms.{Lent, rooms_of}
use Rattle.record.specs.Header as header
use Rattle.header_feed.specs.Due.{header_with, decided}
use Rattle.header_feed.proofs.Prefixes.{refused_stays, given_stays}
use Rattle.header_feed.proofs.Decides.{short_undecided, three_undecided, other_decided, buffer_decided, end_decided, text_undecided}
use Rattle.header_feed.proofs.Calls.{prefix_refused, buffer_short, text_whole}

-- ---- what bytes are enough for, by cases
pub data Verdict (b : ℕ) (x : List ℕ) : Type 0 where
  short : length x < 8 → Verdict b x
  three : 8 ≤ length x → prefix x ≡ refused 3 → Verdict b x
  other : (k : ℕ) → 8 ≤ length x → prefix x ≡ refused k → (k ≡ 3 → ⊥) → Verdict b x
  no_buffer : (p : Prefix) → prefix x ≡ gives p → b < p.text_length → Verdict b x
  part_text : (p : Prefix) → prefix x ≡ gives p → p.text_length ≤ b → length x < data_start_of p → Verdict b x
  whole_text_lem : (p : Prefix) → prefix x ≡ gives p → p.text_length ≤ b → data_start_of p ≤ length x → Verdict b x

same_or_not : (k : ℕ) → (k ≡ 3) ⊎ (k ≡ 3 → ⊥)
same_or_not k =
    ⊎_elim
    (λ (l : k < 3). inr (λ e. omega arith))
    (λ (l : 3 ≤ k). ⊎_elim (λ (m : 3 < k). inr (λ e. omega arith)) (λ (m : k ≤ 3). inl (omega arith)) (lt_or_ge 3 k))
    (lt_or_ge k 3)

pub verdict : (b : ℕ) (x : List ℕ) → Verdict b x
verdict b x = ⊎_elim (λ (l : length x < 8). short l) (λ (l : 8 ≤ length x). by l (prefix x) refl) (lt_or_ge (length x) 8)
  where
    by : 8 ≤ length x → (o : Outcome Prefix) → prefix x ≡ o → Verdict b x
    by l (gives p) e =
        ⊎_elim
        (λ (m : b < p.text_length). no_buffer p e m)
        (λ (m : p.text_length ≤ b). ⊎_elim (λ (n : length x < data_start_of p). part_text p e m n) (λ (n : data_start_of p ≤ length x). whole_text_lem p e m n) (lt_or_ge (length x) (data_start_of p)))
        (lt_or_ge b p.text_length)
    by l (refused k) e = ⊎_elim (λ (m : k ≡ 3). three l (rw m at e)) (λ (m : k ≡ 3 → ⊥). other k l e m) (same_or_not k)

pub apart : (x : Bool) → x ≡ true → x ≡ false → ⊥
apart x p q = let z : ◌≡◌ {A = ℕ} 0 1 = cc in omega arith

-- a part of the first of two lists
pub part_of : (w m : ℕ) (x y : List ℕ) → m + w ≤ length x → take w (drop m (x ++ y)) ≡ take w (drop m x)
part_of w zero x y h = take-append-le w x y (omega arith)
part_of w (suc m) [] y h = absurd (omega arith)
part_of w (suc m) (a ∷ x) y h = part_of w m x y (omega arith)

-- ---- the outcome stays, whatever follows
pub settled_stays : (rd : header.Reading) (b : ℕ) (x y : List ℕ) (l : Lent) → decided b x ≡ true → (decided b (x ++ y) ≡ true) × (header_with rd b (x ++ y) l ≡ header_with rd b x l)
settled_stays rd b x y l d = go (verdict b x)
  where
    longer : length x ≤ length (x ++ y)
    longer = rw (length-append x y) (omega arith)

    go : Verdict b x → (decided b (x ++ y) ≡ true) × (header_with rd b (x ++ y) l ≡ header_with rd b x l)
    go (short h) = absurd (apart (decided b x) d (short_undecided b x h))
    go (three h e) = absurd (apart (decided b x) d (three_undecided b x e))
    go (other k h e n) =
        let e' = refused_stays x y k h e n in
        (other_decided b (x ++ y) k (omega (arith, longer)) e' n, prefix_refused rd b (x ++ y) l k e' ∙ sym (prefix_refused rd b x l k e))
    go (no_buffer p e h) =
        let e' = given_stays x y p e in
        (buffer_decided b (x ++ y) p e' h, buffer_short rd b (x ++ y) l p e' h ∙ sym (buffer_short rd b x l p e h))
    go (part_text p e h m) = absurd (apart (decided b x) d (text_undecided b x p e h m))
    go (whole_text_lem p e h m) =
        let e' = given_stays x y p e in
        let m' : data_start_of p ≤ length (x ++ y) = omega (arith, longer) in (
          end_decided b (x ++ y) p e' m',
          text_whole rd b (x ++ y) l p e' h m' ∙ ap (λ (t : List ℕ). then (header.record_in rd t) (header.stored (rooms_of l) p)) (part_of p.text_length (text_start p.version) x y m) ∙ sym (text_whole rd b x l p e h m),
        )
