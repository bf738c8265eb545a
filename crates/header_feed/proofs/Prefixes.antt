-- The prefix of bytes that grow: the version's two bytes say where the text starts, the bytes before the text decide the prefix, and once it is complete it stays as it is.
use Prim.Native.Nat.{ℕ, zero, suc, ◌+◌, ◌<◌, ◌≤◌}
use native.Mathlib.Omega.{arith}
use mathlib.Core.Path.{◌≡◌, refl, ap, sym, ◌∙◌}
use mathlib.Core.Logic.{◌⊎◌, inl, inr, ⊎_elim}
use mathlib.Core.List.{List, [], ◌∷◌, ◌++◌}
use mathlib.Core.Bool.{Bool, true, false, not, ◌&&◌, cond}
use lib.Dec.{eqb, ltb}
use lib.ListN.{length, get_or, take, drop, length-append, get_or-append}
use lib.Seq.{take_all, take-take, take-append-le, get_or-take, length-take-le}
use borrow.Author.Tests.{le-ltb, ltb-false}
use Rattle.counts.specs.Outcome.{Outcome, gives, refused, then, unless}
use Rattle.counts.specs.Lists.{same}
use Rattle.counts.proofs.Sides.{lt_or_ge}
use Rattle.number_bytes.specs.Numbers.{little}
use Rattle.record.specs.Prefix.{Version, one_zero, two_zero, three_zero, version_of, length_width, text_start, magic, most_text, Prefix, length_read, prefix}
use Rattle.header_prefix.proofs.Bytes.{short_is_1, short_is_3}
use Rattle.header_feed.specs.Due.{start_by, start_in}

-- ---- where the text starts
by_version : (o : Outcome Version) → (10 ≤ start_by o) × (start_by o ≤ 12)
by_version (gives one_zero) = (omega arith, omega arith)
by_version (gives two_zero) = (omega arith, omega arith)
by_version (gives three_zero) = (omega arith, omega arith)
by_version (refused n) = (omega arith, omega arith)

pub start_bounds : (x : List ℕ) → (10 ≤ start_in x) × (start_in x ≤ 12)
start_bounds x = by_version (version_of (get_or x 6 0) (get_or x 7 0))

pub start_append : (x y : List ℕ) → 8 ≤ length x → start_in (x ++ y) ≡ start_in x
start_append x y h = rw (get_or-append x y 0 6 (omega arith), get_or-append x y 0 7 (omega arith))

pub start_take : (k : ℕ) (x : List ℕ) → 8 ≤ k → start_in (take k x) ≡ start_in x
start_take k x h = rw (get_or-take k x 6 0 (omega arith), get_or-take k x 7 0 (omega arith))

-- ---- from byte 8 on the prefix goes by the six bytes, the version and the length field
abbrev view : Bool → Outcome Version → List ℕ → Outcome Prefix
view b o x = unless (not b) 1 (then o (λ v. length_read v x))

prefix_view : (x : List ℕ) → 8 ≤ length x → prefix x ≡ view (same (take 6 x) magic) (version_of (get_or x 6 0) (get_or x 7 0)) x
unfolding prefix
prefix_view x h = rw (prefix, le-ltb (length x) 8 h)

-- w bytes from place m on, of the first k
part_front : (w m k : ℕ) (l : List ℕ) → m + w ≤ k → take w (drop m (take k l)) ≡ take w (drop m l)
part_front w zero k l h = take-take w k l (omega arith)
part_front w (suc m) zero l h = absurd (omega arith)
part_front w (suc m) (suc k) [] h = refl
part_front w (suc m) (suc k) (x ∷ l) h = part_front w m k l (omega arith)

read_front : (v : Version) (x : List ℕ) → length_read v (take (text_start v) x) ≡ length_read v x
read_front v x =
    ⊎_elim
    (λ (h : length x < text_start v). ap (length_read v) (take_all (text_start v) x (omega arith)))
    (λ (h : text_start v ≤ length x).
    let n = length-take-le (text_start v) x h in
    rw (le-ltb (length (take (text_start v) x)) (text_start v) (omega arith), le-ltb (length x) (text_start v) h, part_front (length_width v) 8 (text_start v) x (omega arith)))
    (lt_or_ge (length x) (text_start v))

-- the bytes before the text decide it
pub prefix_start : (x : List ℕ) → 8 ≤ length x → prefix (take (start_in x) x) ≡ prefix x
prefix_start x h =
    let s = start_bounds x in
    ⊎_elim
    (λ (l : length x < start_in x). ap prefix (take_all (start_in x) x (omega arith)))
    (λ (l : start_in x ≤ length x).
    let n = length-take-le (start_in x) x l in
    prefix_view (take (start_in x) x) (omega arith) ∙ same_view (omega (arith, s.0)) ∙ sym (prefix_view x h))
    (lt_or_ge (length x) (start_in x))
  where
    by : (b : Bool) (o : Outcome Version) → view b o (take (start_by o) x) ≡ view b o x
    by true (gives v) = read_front v x
    by true (refused n) = refl
    by false o = refl

    same_view : 8 ≤ start_in x
        → view (same (take 6 (take (start_in x) x)) magic) (version_of (get_or (take (start_in x) x) 6 0) (get_or (take (start_in x) x) 7 0)) (take (start_in x) x)
        ≡ view (same (take 6 x) magic) (version_of (get_or x 6 0) (get_or x 7 0)) x
    same_view l =
        rw (take-take 6 (start_in x) x (omega arith), get_or-take (start_in x) x 6 0 (omega arith), get_or-take (start_in x) x 7 0 (omega arith))
        (by (same (take 6 x) magic) (version_of (get_or x 6 0) (get_or x 7 0)))

-- ---- the version that a prefix has
-- a version is refused by 2 alone
version_two : (a b n : ℕ) → version_of a b ≡ refused n → n ≡ 2
version_two a b n = go (eqb a 1 && eqb b 0) (eqb a 2 && eqb b 0) (eqb a 3 && eqb b 0)
  where
    go : (x y z : Bool) → cond x (gives one_zero) (cond y (gives two_zero) (cond z (gives three_zero) (refused 2))) ≡ refused n → n ≡ 2
    go true y z e = let q : ◌≡◌ {A = ℕ} 0 1 = cc in absurd (omega arith)
    go false true z e = let q : ◌≡◌ {A = ℕ} 0 1 = cc in absurd (omega arith)
    go false false true e = let q : ◌≡◌ {A = ℕ} 0 1 = cc in absurd (omega arith)
    go false false false e = cc

-- the six bytes are right and the version is one, which says where the text starts
pub record Versioned (x : List ℕ) : Type 0 where
  pub long : 8 ≤ length x
  pub version : Version
  pub is : version_of (get_or x 6 0) (get_or x 7 0) ≡ gives version
  pub starts : start_in x ≡ text_start version
  pub reads : prefix x ≡ length_read version x
  pub magical : same (take 6 x) magic ≡ true

eight : (x : List ℕ) (o : Outcome Prefix) → prefix x ≡ o → (refused 1 ≡ o → ⊥) → 8 ≤ length x
eight x o e h = ⊎_elim (λ (l : length x < 8). absurd (h (sym (short_is_1 x l) ∙ e))) (λ (l : 8 ≤ length x). l) (lt_or_ge (length x) 8)

versioned : (x : List ℕ) (o : Outcome Prefix) → prefix x ≡ o → (refused 1 ≡ o → ⊥) → (refused 2 ≡ o → ⊥) → Versioned x
versioned x o e h1 h2 = go (same (take 6 x) magic) refl (version_of (get_or x 6 0) (get_or x 7 0)) refl (sym (prefix_view x long) ∙ e)
  where
    long : 8 ≤ length x
    long = eight x o e h1

    go : (b : Bool) → same (take 6 x) magic ≡ b → (u : Outcome Version) → version_of (get_or x 6 0) (get_or x 7 0) ≡ u → view b u x ≡ o → Versioned x
    go false eb u eu q = absurd (h1 q)
    go true eb (refused n) eu q = absurd (h2 (ap refused (sym (version_two (get_or x 6 0) (get_or x 7 0) n eu)) ∙ q))
    go true eb (gives v) eu q =
        record {
          long = long;
          version = v;
          is = eu;
          starts = ap start_by eu;
          reads = e ∙ sym q;
          magical = eb;
        }

-- .. and more bytes leave it
pub versioned_append : (x y : List ℕ) (w : Versioned x) → prefix (x ++ y) ≡ length_read w.version (x ++ y)
versioned_append x y w =
    let n : 8 ≤ length x = w.long in
    let l : 8 ≤ length (x ++ y) = rw (length-append x y) (omega arith) in
    prefix_view (x ++ y) l
    ∙ rw (take-append-le 6 x y (omega arith), get_or-append x y 0 6 (omega arith), get_or-append x y 0 7 (omega arith), w.magical, w.is)

-- ---- 1, 2 and 4 stay too
pub refused_stays : (x y : List ℕ) (k : ℕ) → 8 ≤ length x → prefix x ≡ refused k → (k ≡ 3 → ⊥) → prefix (x ++ y) ≡ refused k
refused_stays x y k h e n = go (same (take 6 x) magic) refl (version_of (get_or x 6 0) (get_or x 7 0)) refl (sym (prefix_view x h) ∙ e)
  where
    long : 8 ≤ length (x ++ y)
    long = rw (length-append x y) (omega arith)

    seen : prefix (x ++ y) ≡ view (same (take 6 x) magic) (version_of (get_or x 6 0) (get_or x 7 0)) (x ++ y)
    seen = prefix_view (x ++ y) long ∙ rw (take-append-le 6 x y (omega arith), get_or-append x y 0 6 (omega arith), get_or-append x y 0 7 (omega arith))

    go : (m : Bool) → same (take 6 x) magic ≡ m → (o : Outcome Version) → version_of (get_or x 6 0) (get_or x 7 0) ≡ o → view m o x ≡ refused k → prefix (x ++ y) ≡ refused k
    go false em o eo q = seen ∙ rw em q
    go true em (refused j) eo q = seen ∙ rw (em, eo) q
    go true em (gives v) eo q =
        ⊎_elim
        (λ (l : length x < text_start v). let z : k ≡ 3 = cc (short_is_3 v x l) in absurd (n z))
        (λ (l : text_start v ≤ length x).
        let s : start_in x ≡ text_start v = ap start_by eo in
        sym (prefix_start (x ++ y) long) ∙ rw (start_append x y h, s, take-append-le (text_start v) x y l, ← s) (prefix_start x h ∙ e))
        (lt_or_ge (length x) (text_start v))

-- ---- 3: the length field is not whole
no_three : (v : Version) (x : List ℕ) → length_read v x ≡ refused 3 → length x < text_start v
no_three v x e = ⊎_elim (λ (h : length x < text_start v). h) (λ (h : text_start v ≤ length x). absurd (go h (ltb most_text (little (take (length_width v) (drop 8 x)))) (whole h ∙ e))) (lt_or_ge (length x) (text_start v))
  where
    whole : text_start v ≤ length x → unless (ltb most_text (little (take (length_width v) (drop 8 x)))) 4 (gives (record { version = v; text_length = little (take (length_width v) (drop 8 x)) })) ≡ length_read v x
    whole h = rw (le-ltb (length x) (text_start v) h)

    go : text_start v ≤ length x → (b : Bool) → unless {A = Prefix} b 4 (gives (record { version = v; text_length = little (take (length_width v) (drop 8 x)) })) ≡ refused 3 → ⊥
    go h true q = let z : ◌≡◌ {A = ℕ} 3 4 = cc in omega arith
    go h false q = let z : ◌≡◌ {A = ℕ} 0 1 = cc in omega arith

pub three_versioned : (x : List ℕ) → 8 ≤ length x → prefix x ≡ refused 3 → Versioned x
three_versioned x h e = versioned x (refused 3) e (λ q. let z : ◌≡◌ {A = ℕ} 1 3 = cc in omega arith) (λ q. let z : ◌≡◌ {A = ℕ} 2 3 = cc in omega arith)

pub three_short : (x : List ℕ) → 8 ≤ length x → prefix x ≡ refused 3 → length x < start_in x
three_short x h e = let w = three_versioned x h e in rw w.starts (no_three w.version x (sym w.reads ∙ e))

pub three_stays : (x y : List ℕ) → 8 ≤ length x → prefix x ≡ refused 3 → length (x ++ y) < start_in x → prefix (x ++ y) ≡ refused 3
three_stays x y h e l = let w = three_versioned x h e in versioned_append x y w ∙ short_is_3 w.version (x ++ y) (rw w.starts at l)

pub start_not_three : (x y : List ℕ) → 8 ≤ length x → prefix x ≡ refused 3 → start_in x ≤ length (x ++ y) → prefix (x ++ y) ≡ refused 3 → ⊥
start_not_three x y h e l q =
    let l8 : 8 ≤ length (x ++ y) = omega (arith, start_bounds x) in
    omega (arith, three_short (x ++ y) l8 q, start_append x y h)

-- ---- a whole prefix
pub record Whole (x : List ℕ) (p : Prefix) : Type 0 where
  pub long : 8 ≤ length x
  pub starts : start_in x ≡ text_start p.version
  pub reached : text_start p.version ≤ length x
  pub few : p.text_length ≤ most_text

read_gives : (v : Version) (x : List ℕ) (p : Prefix) → length_read v x ≡ gives p → (text_start v ≤ length x) × (p.version ≡ v) × (p.text_length ≤ most_text)
read_gives v x p e = go (ltb (length x) (text_start v)) refl (ltb most_text (little (take (length_width v) (drop 8 x)))) refl e
  where
    go : (b : Bool) → ltb (length x) (text_start v) ≡ b → (c : Bool) → ltb most_text (little (take (length_width v) (drop 8 x))) ≡ c
        → unless b 3 (unless c 4 (gives (record { version = v; text_length = little (take (length_width v) (drop 8 x)) }))) ≡ gives p
        → (text_start v ≤ length x) × (p.version ≡ v) × (p.text_length ≤ most_text)
    go true eb c ec q = let z : ◌≡◌ {A = ℕ} 0 1 = cc in absurd (omega arith)
    go false eb true ec q = let z : ◌≡◌ {A = ℕ} 0 1 = cc in absurd (omega arith)
    go false eb false ec q =
        let is : record { version = v; text_length = little (take (length_width v) (drop 8 x)) } ≡ p = cc in
        (ltb-false (length x) (text_start v) eb, sym (ap (λ (r : Prefix). r.version) is), rw (← is) (ltb-false most_text (little (take (length_width v) (drop 8 x))) ec))

pub given_whole : (x : List ℕ) (p : Prefix) → prefix x ≡ gives p → Whole x p
given_whole x p e =
    let w = versioned x (gives p) e (λ q. let z : ◌≡◌ {A = ℕ} 0 1 = cc in omega arith) (λ q. let z : ◌≡◌ {A = ℕ} 0 1 = cc in omega arith) in
    let r = read_gives w.version x p (sym w.reads ∙ e) in
    record { long = w.long; starts = rw r.1 w.starts; reached = rw r.1 r.0; few = r.2 }

pub given_stays : (x y : List ℕ) (p : Prefix) → prefix x ≡ gives p → prefix (x ++ y) ≡ gives p
given_stays x y p e =
    let w = given_whole x p e in
    let l : 8 ≤ length (x ++ y) = rw (length-append x y) (omega (arith, w.long)) in
    let s : start_in x ≤ length x = omega (arith, w.starts, w.reached) in
    sym (prefix_start (x ++ y) l) ∙ rw (start_append x y w.long, take-append-le (start_in x) x y s) (prefix_start x w.long ∙ e)

-- ---- the two bytes, as the code tests them
pub start_by_lem : (a b : ℕ) → start_by (version_of a b) ≡ cond (eqb a 1 && eqb b 0) 10 12
start_by_lem a b = go (eqb a 1 && eqb b 0) (eqb a 2 && eqb b 0) (eqb a 3 && eqb b 0)
  where
    go : (x y z : Bool) → start_by (cond x (gives one_zero) (cond y (gives two_zero) (cond z (gives three_zero) (refused 2)))) ≡ cond x 10 12
    go true y z = refl
    go false true z = refl
    go false false true = refl
    go false false false = refl

-- ---- 1 and 2 are decided by the first 8 bytes, 4 by a complete length field
read_late : (v : Version) (x : List ℕ) (k : ℕ) → length_read v x ≡ refused k → k < 3 → ⊥
read_late v x k q l = at_least (ltb (length x) (text_start v)) (ltb most_text (little (take (length_width v) (drop 8 x)))) q
  where
    at_least : (s t : Bool) → unless s 3 (unless {A = Prefix} t 4 (gives (record { version = v; text_length = little (take (length_width v) (drop 8 x)) }))) ≡ refused k → ⊥
    at_least true t i = let z : ◌≡◌ {A = ℕ} 3 k = cc in omega arith
    at_least false true i = let z : ◌≡◌ {A = ℕ} 4 k = cc in omega arith
    at_least false false i = let z : ◌≡◌ {A = ℕ} 0 1 = cc in omega arith

pub early_refused : (x : List ℕ) (k : ℕ) → 8 ≤ length x → prefix x ≡ refused k → (k ≡ 1) ⊎ (k ≡ 2) → prefix (take 8 x) ≡ refused k
early_refused x k h e c = go (same (take 6 x) magic) refl (version_of (get_or x 6 0) (get_or x 7 0)) refl (sym (prefix_view x h) ∙ e)
  where
    n : length (take 8 x) ≡ 8
    n = length-take-le 8 x h

    seen : prefix (take 8 x) ≡ view (same (take 6 x) magic) (version_of (get_or x 6 0) (get_or x 7 0)) (take 8 x)
    seen = prefix_view (take 8 x) (omega (arith, n)) ∙ rw (take-take 6 8 x (omega arith), get_or-take 8 x 6 0 (omega arith), get_or-take 8 x 7 0 (omega arith))

    go : (m : Bool) → same (take 6 x) magic ≡ m → (o : Outcome Version) → version_of (get_or x 6 0) (get_or x 7 0) ≡ o → view m o x ≡ refused k → prefix (take 8 x) ≡ refused k
    go false em o eo q = seen ∙ rw em q
    go true em (refused j) eo q = seen ∙ rw (em, eo) q
    go true em (gives v) eo q = absurd (⊎_elim (λ (a : k ≡ 1). read_late v x k q (omega arith)) (λ (a : k ≡ 2). read_late v x k q (omega arith)) c)

pub four_reached : (x : List ℕ) → prefix x ≡ refused 4 → start_in x ≤ length x
four_reached x e =
    let w = versioned x (refused 4) e (λ q. let z : ◌≡◌ {A = ℕ} 1 4 = cc in omega arith) (λ q. let z : ◌≡◌ {A = ℕ} 2 4 = cc in omega arith) in
    ⊎_elim
    (λ (l : length x < text_start w.version). let z : ◌≡◌ {A = ℕ} 3 4 = cc (short_is_3 w.version x l, w.reads) in absurd (omega arith))
    (λ (l : text_start w.version ≤ length x). omega (arith, w.starts))
    (lt_or_ge (length x) (text_start w.version))

-- ---- a prefix is refused with 1, 2, 3 or 4
read_refusals : (v : Version) (x : List ℕ) (k : ℕ) → length_read v x ≡ refused k → (k ≡ 3) ⊎ (k ≡ 4)
read_refusals v x k q = go (ltb (length x) (text_start v)) (ltb most_text (little (take (length_width v) (drop 8 x)))) q
  where
    go : (s t : Bool) → unless s 3 (unless {A = Prefix} t 4 (gives (record { version = v; text_length = little (take (length_width v) (drop 8 x)) }))) ≡ refused k → (k ≡ 3) ⊎ (k ≡ 4)
    go true t i = inl cc
    go false true i = inr cc
    go false false i = let z : ◌≡◌ {A = ℕ} 0 1 = cc in absurd (omega arith)

pub prefix_refusals : (x : List ℕ) (k : ℕ) → prefix x ≡ refused k → ((k ≡ 1) ⊎ (k ≡ 2)) ⊎ ((k ≡ 3) ⊎ (k ≡ 4))
prefix_refusals x k e =
    ⊎_elim
    (λ (l : length x < 8). inl (inl (let z : ◌≡◌ {A = ℕ} 1 k = cc (short_is_1 x l) in sym z)))
    (λ (l : 8 ≤ length x). go (same (take 6 x) magic) (version_of (get_or x 6 0) (get_or x 7 0)) refl (sym (prefix_view x l) ∙ e))
    (lt_or_ge (length x) 8)
  where
    go : (m : Bool) (o : Outcome Version) → version_of (get_or x 6 0) (get_or x 7 0) ≡ o → view m o x ≡ refused k → ((k ≡ 1) ⊎ (k ≡ 2)) ⊎ ((k ≡ 3) ⊎ (k ≡ 4))
    go false o eo q = inl (inl (let z : ◌≡◌ {A = ℕ} 1 k = cc in sym z))
    go true (refused n) eo q = inl (inr (let z : n ≡ k = cc in sym z ∙ version_two (get_or x 6 0) (get_or x 7 0) n eo))
    go true (gives v) eo q = inr (read_refusals v x k q)
