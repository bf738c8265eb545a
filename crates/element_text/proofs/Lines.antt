-- The line of an element at each of its ends: by its type, put as far as there is room, and then put where there is room for all of it.
use Rattle.std.specs.Prelude.{Err, Ok, Result}
use Prim.Native.Nat.{ℕ, ◌-◌, ◌^◌, ◌<◌, ◌≤◌}
use native.Mathlib.Omega.{arith}
use mathlib.Core.Path.{◌≡◌, refl, sym, ap, subst, ◌∙◌}
use mathlib.Core.Bool.{true, false}
use mathlib.Core.List.{List, [], ◌∷◌}
use lib.ListN.{length, take}
use Rattle.counts.specs.Outcome.{Outcome, gives, refused, then, each}
use Rattle.counts.specs.Owes.{roomed, Owes}
use Rattle.counts.specs.declared.Bytes.{Bytes}
use Rattle.counts.proofs.Apart.{gives_apart, gives_refused, refused_gives}
use Rattle.refusal.specs.declared.Refusal.{Refusal}
use Rattle.refusal.specs.Numbers.{number_of}
use Rattle.emit.specs.Emits.{Emits}
use Rattle.emit.proofs.Pieces.{emits_then, emits_same}
use Rattle.emit.proofs.Texts.{written_short, written_whole}
use Rattle.type_letters.specs.Letters.{is_unicode, is_bytes, is_raw}
use Rattle.type_letters.specs.declared.TypeChar.TheVariants.{ByteStr, UnicodeStr, RawData}
use Rattle.type_str.specs.Text.{is_type}
use Rattle.type_str.specs.declared.TypeStr.{TypeStr}
use Rattle.string_value.specs.Elements.{trimmed, points, points_in, found}
use Rattle.string_value.proofs.Trims.{trim_take, trim_length}
use Rattle.string_value.proofs.Ways.{in_bytes, in_raw}
use Rattle.value.specs.Values.{read_value}
use Rattle.element_text.specs.Hexadecimal.{hex_digits}
use Rattle.element_text.specs.Text.{all_text, point_text, bytes_text, points_text, raw_text, value_text, lined, line_in}
use Rattle.element_text.specs.Puts.{PutsElement, PutsOrRefuses}

-- ---- by the type
module _ (t : TypeStr) (run : List ℕ) where
  pub line_none : is_type t ≡ false → line_in t run ≡ refused 27
  unfolding line_in
  line_none h = rw (line_in, h)

  in_points : t.letter ≡ UnicodeStr → points_in t run ≡ each trimmed (points t.order run)
  unfolding points_in
  in_points l = rw (points_in, l)

  module _ (h : is_type t ≡ true) where
    pub line_text : t.letter ≡ UnicodeStr → each (λ cs. lined (points_text cs)) (each trimmed (points t.order run)) ≡ line_in t run
    unfolding line_in
    line_text l =
        let u : is_unicode t.letter ≡ true = ap is_unicode l in
        rw (line_in, h, u) (ap (each (λ cs. lined (points_text cs))) (sym (in_points l)))

    pub line_bytes : t.letter ≡ ByteStr → gives (lined (bytes_text (trimmed run))) ≡ line_in t run
    unfolding line_in
    line_bytes l =
        let u : is_unicode t.letter ≡ false = ap is_unicode l in
        let b : is_bytes t.letter ≡ true = ap is_bytes l in
        rw (line_in, h, u, b) (ap (each (λ bs. lined (bytes_text bs))) (sym (in_bytes t run l)))

    pub line_raw : t.letter ≡ RawData → gives (lined (raw_text run)) ≡ line_in t run
    unfolding line_in
    line_raw l =
        let u : is_unicode t.letter ≡ false = ap is_unicode l in
        let b : is_bytes t.letter ≡ false = ap is_bytes l in
        let v : is_raw t.letter ≡ true = ap is_raw l in
        rw (line_in, h, u, b, v) (ap (each (λ bs. lined (raw_text bs))) (sym (in_raw t run l)))

    pub line_value : false ≡ is_unicode t.letter → false ≡ is_bytes t.letter → false ≡ is_raw t.letter → each (λ v. lined (value_text v)) (read_value t run) ≡ line_in t run
    unfolding line_in
    line_value a b c = rw (line_in, h, sym a, sym b, sym c)

-- ---- put as far as there is room
pub puts_same : (o o' : Outcome (List ℕ → List ℕ)) (room : List ℕ) (r : Result Bytes Refusal) (room' : List ℕ) → o ≡ o' → PutsOrRefuses o room r room' → PutsOrRefuses o' room r room'
puts_same o o' room r room' e h = subst (λ (u : Outcome (List ℕ → List ℕ)). PutsOrRefuses u room r room') e h

-- the value of an outcome that is known
pub puts_each : {A : Type 0} (f : A → List ℕ → List ℕ) (o : Outcome A) (a : A) (room : List ℕ) (n : Bytes) (room' : List ℕ) → gives a ≡ o → Emits (f a) room 0 room' n.0
    → PutsOrRefuses (each f o) room (Ok n) room'
puts_each {A} f o a room n room' e h = subst (λ (u : Outcome A). PutsOrRefuses (each f u) room (Ok n) room') e h

pub refuses_each : {A : Type 0} (f : A → List ℕ → List ℕ) (o : Outcome A) (why : Refusal) (room : List ℕ) → refused (number_of why) ≡ o → PutsOrRefuses (each f o) room (Err why) room
refuses_each {A} f o why room e = subst (λ (u : Outcome A). PutsOrRefuses (each f u) room (Err why) room) e (refl, refl)

-- what was judged of a run of code points
pub record Judged (o : Outcome (List ℕ)) (n : ℕ) : Type 0 where
  pub is : gives (found o) ≡ o
  pub long : n ≡ length (trimmed (found o))

pub judged : (o : Outcome (List ℕ)) (n : ℕ) → gives n ≡ each (λ ps. length (trimmed ps)) o → Judged o n
judged (gives ps) n e = record { is = refl; long = gives_apart e }
judged (refused k) n e = gives_refused e

pub judged_bad : (o : Outcome (List ℕ)) (k : ℕ) → refused k ≡ each (λ ps. length (trimmed ps)) o → refused k ≡ each trimmed o
judged_bad (gives ps) k e = refused_gives e
judged_bad (refused j) k e = cc

pub judged_inside : (o : Outcome (List ℕ)) (n : ℕ) → Judged o n → n ≤ length (found o)
judged_inside o n j = omega (arith, j.long, trim_length (found o))

module _ (o : Outcome (List ℕ)) (n : ℕ) (j : Judged o n) (old : List ℕ) (mid₁ : List ℕ) (p₁ : ℕ) (mid₂ : List ℕ) (p₂ : ℕ) (out : List ℕ) (q : ℕ) where
  pub points_line : Emits (λ x. 116 ∷ 101 ∷ 120 ∷ 116 ∷ 32 ∷ 39 ∷ x) old 0 mid₁ p₁ → Emits (all_text point_text (take n (found o))) mid₁ p₁ mid₂ p₂ → Emits (λ x. 39 ∷ 10 ∷ x) mid₂ p₂ out q
      → PutsOrRefuses (each (λ cs. lined (points_text cs)) (each trimmed o)) old (Ok (record { 0 = q })) out
  points_line a b c =
      let kept : take n (found o) ≡ trimmed (found o) = ap (λ (k : ℕ). take k (found o)) j.long ∙ trim_take (found o) in
      let d = subst (λ (ps : List ℕ). Emits (all_text point_text ps) mid₁ p₁ mid₂ p₂) kept b in
      puts_each (λ cs. lined (points_text cs)) (each trimmed o) (trimmed (found o)) old (record { 0 = q }) out (ap (each trimmed) j.is)
      (emits_then (λ x. 116 ∷ 101 ∷ 120 ∷ 116 ∷ 32 ∷ 39 ∷ all_text point_text (trimmed (found o)) x) (λ x. 39 ∷ 10 ∷ x) old 0 mid₂ p₂ out q
      (emits_then (λ x. 116 ∷ 101 ∷ 120 ∷ 116 ∷ 32 ∷ 39 ∷ x) (all_text point_text (trimmed (found o))) old 0 mid₁ p₁ mid₂ p₂ a d) c)

-- ---- bytes
pub bytes_known : (l l' old out : List ℕ) (p : ℕ) → l ≡ l' → Emits (lined (bytes_text l)) old 0 out p → Emits (lined (bytes_text l')) old 0 out p
bytes_known l l' old out p e h = subst (λ (m : List ℕ). Emits (lined (bytes_text m)) old 0 out p) e h

-- ---- raw bytes
module _ (old : List ℕ) (out : List ℕ) (q : ℕ) where
  pub raw_none : (value : List ℕ) → length value ≡ 0 → Emits (λ x. 114 ∷ 97 ∷ 119 ∷ 10 ∷ x) old 0 out q → Emits (lined (raw_text value)) old 0 out q
  raw_none [] e h = h
  raw_none (b ∷ bs) e h = absurd (omega arith)

  raw_as : (value : List ℕ) (x : List ℕ) → (length value ≡ 0 → ⊥) → (114 ∷ 97 ∷ 119 ∷ 32 ∷ all_text (hex_digits 2) value x) ≡ raw_text value x
  raw_as [] x ne = absurd (ne refl)
  raw_as (b ∷ bs) x ne = refl

  pub raw_some : (value : List ℕ) (mid₁ : List ℕ) (p₁ : ℕ) (mid₂ : List ℕ) (p₂ : ℕ) → (length value ≡ 0 → ⊥) → Emits (λ x. 114 ∷ 97 ∷ 119 ∷ 32 ∷ x) old 0 mid₁ p₁
      → Emits (all_text (hex_digits 2) value) mid₁ p₁ mid₂ p₂ → Emits (λ x. 10 ∷ x) mid₂ p₂ out q → Emits (lined (raw_text value)) old 0 out q
  raw_some value mid₁ p₁ mid₂ p₂ ne a b c =
      emits_same (λ x. 114 ∷ 97 ∷ 119 ∷ 32 ∷ all_text (hex_digits 2) value (10 ∷ x)) (lined (raw_text value)) old 0 out q (λ x. raw_as value (10 ∷ x) ne)
      (emits_then (λ x. 114 ∷ 97 ∷ 119 ∷ 32 ∷ all_text (hex_digits 2) value x) (λ x. 10 ∷ x) old 0 mid₂ p₂ out q
      (emits_then (λ x. 114 ∷ 97 ∷ 119 ∷ 32 ∷ x) (all_text (hex_digits 2) value) old 0 mid₁ p₁ mid₂ p₂ a b) c)

-- ---- where there is room for all of it
module _ (t : TypeStr) (run scratch mid : List ℕ) (room : List ℕ) (first : Result Bytes Refusal) (measured : PutsOrRefuses (line_in t run) scratch first mid) where
  pub put_refused : (why : Refusal) → first ≡ Err why → PutsElement t run room first room
  put_refused why e = subst (λ (r : Result Bytes Refusal). PutsElement t run room r room) (sym e) (go (line_in t run) (subst (λ (r : Result Bytes Refusal). PutsOrRefuses (line_in t run) scratch r mid) e measured))
    where
      go : (o : Outcome (List ℕ → List ℕ)) → PutsOrRefuses o scratch (Err why) mid → Owes (then (each (λ f. f []) o) (roomed 28 room)) room (refused (number_of why)) room
      go (gives f) h = absurd h
      go (refused k) h = record { answered = ap refused h.0; room_after = refl }

  module _ (n : Bytes) (e : first ≡ Ok n) (fits : n.0 < 2 ^ 64) (short : length room < 2 ^ 64 - 1) where
    known : PutsOrRefuses (line_in t run) scratch (Ok n) mid
    known = subst (λ (r : Result Bytes Refusal). PutsOrRefuses (line_in t run) scratch r mid) e measured

    pub put_short : length room < n.0 → PutsElement t run room (Err Refusal.OutputRoom) room
    put_short lt = go (line_in t run) known
      where
        go : (o : Outcome (List ℕ → List ℕ)) → PutsOrRefuses o scratch (Ok n) mid → Owes (then (each (λ f. f []) o) (roomed 28 room)) room (refused 28) room
        go (gives f) h = written_short f scratch mid n.0 room fits short h lt
        go (refused k) h = absurd h

    pub put_whole : (out : List ℕ) (again : Result Bytes Refusal) → n.0 ≤ length room → PutsOrRefuses (line_in t run) room again out → PutsElement t run room (Ok n) out
    put_whole out again le w = go (line_in t run) again known w
      where
        go : (o : Outcome (List ℕ → List ℕ)) (r : Result Bytes Refusal) → PutsOrRefuses o scratch (Ok n) mid → PutsOrRefuses o room r out
            → Owes (then (each (λ f. f []) o) (roomed 28 room)) room (gives n.0) out
        go (gives f) (Ok m) h w = written_whole f scratch mid n.0 room fits short h out m.0 le w
        go (gives f) (Err why) h w = absurd w
        go (refused k) r h w = absurd h
