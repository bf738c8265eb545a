-- A path followed in a table: what the loops of `field_at` and `follow` keep, and what `step` finds at one entry. Sizes are exact since no entry is over, and
-- nothing that is summed is more than the whole item.
use Rattle.std.specs.Prelude.{None, Some, Option}
use Prim.Native.Nat.{ℕ, zero, suc, ◌+◌, ◌*◌, ◌^◌, ◌<◌, ◌≤◌}
use mathlib.Core.Path.{◌≡◌, refl, ap, sym, ◌∙◌}
use mathlib.Core.Bool.{Bool, true, false, not}
use mathlib.Core.List.{List, [], ◌∷◌}
use native.Mathlib.Omega.{arith}
use mathlib.Core.Logic.{◌⊎◌, inl, inr}
use borrow.Author.Tests.{le-leb, lt-leb, not-false}
use lib.ListN.{length, get_or, drop, length-drop, drop_of_length-le}
use lib.Seq.{drop-cons}
use Rattle.counts.specs.Outcome.{gives, refused}
use Rattle.counts.specs.Number.{number}
use Rattle.counts.specs.Counts.{bytes as byte_count, as_bytes}
use Rattle.counts.specs.declared.Bytes.{Bytes}
use Rattle.counts.proofs.Counted.{bytes_back, bytes_over_lem, bytes_eq}
use Rattle.counts.proofs.Sides.{lt_or_ge}
use Rattle.type_str.specs.declared.TypeStr.{TypeStr}
use Rattle.type_str.specs.Text.{is_type}
use Rattle.dtype.specs.declared.Entry.{Entry}
use Rattle.dtype.specs.Dtype.{Dtype, Fields, plain, array, record_of, end_of_fields, field_then, size_of}
use Rattle.dtype.specs.Entries.{field_count, entries_of, some_entry, some_entry_in, plain_only}
use Rattle.dtype.specs.Record.{entry_width, table}
use Rattle.dtype.specs.EntryOf.{entry_of}
use Rattle.dtype.specs.Limits.{some_over}
use Rattle.dtype.specs.Places.{plain_at, plain_of, offset}
use Rattle.dtype.proofs.Runs.{PathTo, FieldPath}
use Rattle.dtype.specs.Agrees.{entry_at}
use Rattle.dtype.specs.Seen.{field_at, field_bytes}
use Rattle.dtype.proofs.Flat.{some_entry_lem, flat_length}
use Rattle.dtype.proofs.InTable.{in_table_entry}
use Rattle.dtype.proofs.Seen.{or_left, or_right, size_fits, bytes_exact}
use Rattle.dtype.specs.Leads.{Leads}
use Rattle.dtype.proofs.Steps.{array_leads, record_leads, plain_leads_nowhere, past_leads_nowhere}
use Rattle.check_table.specs.Reading.{untyped}
use Rattle.table_entry.specs.EntryType.{type_of}
use Rattle.table_entry.proofs.Types.{type_of_written}
use Rattle.type_letters.specs.Letters.{order_byte, order_of, letter_byte}
use Rattle.dtype.specs.TypeNumbers.{units_number}
use Rattle.dtype.specs.PlainBytes.{plain_bytes}
use Rattle.place.specs.declared.Reached.{Reached}
use Rattle.place.specs.Walk.{ListedSized, Steps}

-- what a table lists from an entry on lies in the table
pub in_table_room : (t : List ℕ) (e : ℕ) (d : Dtype) → ListedSized t e d → entry_width * (e + entries_of d) ≤ length t
in_table_room t e d s =
    omega (arith, ap length s.is, length-drop (entry_width * e) t, flat_length d e s.up s.name s.rest, some_entry_lem d)

-- one field further
field_at_next : (t : List ℕ) (k c : ℕ) → field_at t (suc k) c ≡ field_at t k c + (entry_at t (field_at t k c)).extent
field_at_next t zero c = refl
field_at_next t (suc k) c = field_at_next t k (c + (entry_at t c).extent)

field_bytes_next : (t : List ℕ) (k c : ℕ) → field_bytes t (suc k) c ≡ field_bytes t k c + (entry_at t (field_at t k c)).bytes
field_bytes_next t zero c = omega arith
field_bytes_next t (suc k) c = omega (arith, field_bytes_next t k (c + (entry_at t c).extent))

-- the loop of `field_at`
pub record PassingFields (t : List ℕ) (e i c bytes k : ℕ) : Type 0 where
  pub within : k ≤ i
  pub at : c ≡ field_at t k (suc e)
  pub is : bytes ≡ field_bytes t k (suc e)

pub passing_start : (t : List ℕ) (e i : ℕ) → PassingFields t e i (e + 1) 0 0
passing_start t e i = record { within = omega arith; at = omega arith; is = refl }

pub passing_next : (t : List ℕ) (e i c bytes k : ℕ) → PassingFields t e i c bytes k → k < i → (x : Entry) → x ≡ entry_at t c
    → (more : Bytes) → Some more ≡ byte_count (number (bytes + x.bytes)) → PassingFields t e i (c + x.extent) more.0 (k + 1)
passing_next t e i c bytes k s l x q more m =
    let z : k + 1 ≡ suc k = omega arith in
    let b = (bytes_back (bytes + x.bytes) more m).0 in
    let p : x ≡ entry_at t (field_at t k (suc e)) = q ∙ ap (λ (j : ℕ). entry_at t j) s.at in
    record {
      within = omega arith;
      at = rw z (omega (arith, s.at, ap (λ (a : Entry). a.extent) p, field_at_next t k (suc e)));
      is = rw z (omega (arith, b, s.is, ap (λ (a : Entry). a.bytes) p, field_bytes_next t k (suc e)));
    }

-- a turn of it stays in the table and below 2^64
pub record Turn (t : List ℕ) (c bytes : ℕ) (x : Entry) : Type 0 where
  pub inside : c + x.extent ≤ length t
  pub fits : bytes + x.bytes < 2 ^ 64

pub passing_turn : (t : List ℕ) (e i c bytes k : ℕ) → PassingFields t e i c bytes k → k < i
    → (fs : Fields) × ListedSized t e (record_of fs) × (i < field_count fs) → (x : Entry) → x ≡ entry_at t c → Turn t c bytes x
passing_turn t e i c bytes k s l (fs, w, g) x q =
    let h = record_leads fs t e w.up w.name w.rest k w.is w.none_over (omega arith) in
    let p : x ≡ entry_at t (field_at t k (suc e)) = q ∙ ap (λ (j : ℕ). entry_at t j) s.at in
    let b = bytes_exact h.inner t (field_at t k (suc e)) h.up h.name h.rest h.there h.none_over in
    let y = ap (λ (a : Entry). a.extent) (in_table_entry h.inner t (field_at t k (suc e)) h.up h.name h.rest h.there) in
    record {
      inside = omega (arith, s.at, ap (λ (a : Entry). a.extent) p, y, h.within, in_table_room t e (record_of fs) w);
      fits = omega (arith, s.is, ap (λ (a : Entry). a.bytes) p, b, h.inside, size_fits (record_of fs) w.none_over);
    }

-- so no sum is over
pub passing_over : {A : Type 0} (t : List ℕ) (c bytes : ℕ) (x : Entry) → Turn t c bytes x → None ≡ byte_count (number (bytes + x.bytes)) → A
passing_over t c bytes x u o = absurd (omega (arith, u.fits, bytes_over_lem (bytes + x.bytes) o))

pub passing_end : (t : List ℕ) (e i c : ℕ) (before : Bytes) (k : ℕ) → PassingFields t e i c before.0 k → i ≤ k
    → ◌≡◌ {A = Option Reached} (Some (record { entry = c; before = before })) (Some (record { entry = field_at t i (suc e); before = as_bytes (field_bytes t i (suc e)) }))
passing_end t e i c before k s l =
    let z : k ≡ i = omega (arith, s.within) in
    let a : c ≡ field_at t i (suc e) = rw (← z) s.at in
    let b : before ≡ as_bytes (field_bytes t i (suc e)) = bytes_eq (rw (← z) s.is) in
    cc

-- ---- one step
module _ (t : List ℕ) (e i : ℕ) (x : Entry) (q : x ≡ entry_at t e) where
  entry_is : (d : Dtype) (s : ListedSized t e d) → x ≡ entry_of d s.up s.name
  entry_is d s = q ∙ in_table_entry d t e s.up s.name s.rest s.is

  pub at_plain : x.kind ≡ 0 → (d : Dtype) → ListedSized t e d → Steps t e d i None
  at_plain k d s p = plain_leads_nowhere d i p (sym (ap (λ (a : Entry). a.kind) (entry_is d s)) ∙ k)

  pub past : x.number ≤ i → (d : Dtype) → ListedSized t e d → Steps t e d i None
  past l d s p = past_leads_nowhere d i p (omega (arith, ap (λ (a : Entry). a.number) (entry_is d s)))

  module _ (l : i < x.number) where
    leads_into : x.kind ≡ 1 → (y : Entry) → y ≡ entry_at t (e + 1) → (d : Dtype) → ListedSized t e d → Leads t d (e + entries_of d) i (e + 1) (i * y.bytes)
    leads_into k y w (plain ty) s = absurd (omega (arith, ap (λ (a : Entry). a.kind) (entry_is (plain ty) s)))
    leads_into k y w (array n d) s =
        let z : e + 1 ≡ suc e = omega arith in
        let v : y ≡ entry_at t (suc e) = rw z at w in
        let r = array_leads n d t e s.up s.name s.rest i s.is s.none_over (omega (arith, ap (λ (a : Entry). a.number) (entry_is (array n d) s))) in
        rw (z, v) r
    leads_into k y w (record_of fs) s = absurd (omega (arith, ap (λ (a : Entry). a.kind) (entry_is (record_of fs) s)))

    pub into : x.kind ≡ 1 → (y : Entry) → y ≡ entry_at t (e + 1) → (before : Bytes) → Some before ≡ byte_count (number (i * y.bytes)) → (d : Dtype) → ListedSized t e d
        → Steps t e d i (Some (record { entry = e + 1; before = before }))
    into k y w before b d s = rw (← (bytes_back (i * y.bytes) before b).0) (leads_into k y w d s)

    -- the offset is not over
    pub into_over : x.kind ≡ 1 → (y : Entry) → y ≡ entry_at t (e + 1) → None ≡ byte_count (number (i * y.bytes)) → (d : Dtype) → ListedSized t e d → Steps t e d i None
    into_over k y w o d s p = let r = leads_into k y w d s in absurd (omega (arith, r.inside, size_fits d s.none_over, bytes_over_lem (i * y.bytes) o))

    -- what `field_at` asks, and what it gives
    pub field_asks : (x.kind ≡ 0 → ⊥) → (x.kind ≡ 1 → ⊥) → (d : Dtype) × ListedSized t e d → (fs : Fields) × ListedSized t e (record_of fs) × (i < field_count fs)
    field_asks p r (plain ty, s) = absurd (p (ap (λ (a : Entry). a.kind) (entry_is (plain ty) s)))
    field_asks p r (array n d, s) = absurd (r (ap (λ (a : Entry). a.kind) (entry_is (array n d) s)))
    field_asks p r (record_of fs, s) = (fs, s, omega (arith, ap (λ (a : Entry). a.number) (entry_is (record_of fs) s)))

    pub to_field : (x.kind ≡ 0 → ⊥) → (x.kind ≡ 1 → ⊥) → (y : Option Reached)
        → y ≡ Some (record { entry = field_at t i (suc e); before = as_bytes (field_bytes t i (suc e)) }) → (d : Dtype) → ListedSized t e d → Steps t e d i y
    to_field p r y w (plain ty) s = absurd (p (ap (λ (a : Entry). a.kind) (entry_is (plain ty) s)))
    to_field p r y w (array n d) s = absurd (r (ap (λ (a : Entry). a.kind) (entry_is (array n d) s)))
    to_field p r y w (record_of fs) s =
        let h = record_leads fs t e s.up s.name s.rest i s.is s.none_over (omega (arith, ap (λ (a : Entry). a.number) (entry_is (record_of fs) s))) in
        rw w h

-- ---- the loop of `follow`
pub record Walk (t path : List ℕ) (e before k : ℕ) (root : Dtype) : Type 0 where
  pub d : Dtype
  pub there : ListedSized t e d
  pub same_plain : plain_at root path ≡ plain_at d (drop k path)
  pub further : offset root path ≡ before + offset d (drop k path)
  pub inside : before + size_of d ≤ size_of root

pub record Walking (t path : List ℕ) (e before k : ℕ) : Type 0 where
  pub within : k ≤ length path
  pub goes : (root : Dtype) → t ≡ table root → some_over root ≡ false → Walk t path e before k root

pub walking_start : (t path : List ℕ) → Walking t path 0 0 0
walking_start t path =
    record {
      within = omega arith;
      goes = λ root h s.
          record {
            d = root;
            there = record { up = 0; name = 0; rest = []; is = h; none_over = s };
            same_plain = refl;
            further = omega arith;
            inside = omega arith;
          };
    }

module _ (t path : List ℕ) (e before k : ℕ) (w : Walking t path e before k) where
  pub step_asks : (d : Dtype) × (t ≡ table d) × (some_over d ≡ false) → (d : Dtype) × ListedSized t e d
  step_asks (root, h, s) = let r = w.goes root h s in (r.d, r.there)

  module _ (l : k < length path) (y : Option Reached) (g : (d : Dtype) → ListedSized t e d → Steps t e d (get_or path k 0) y) where
    pub walking_nowhere : y ≡ None → (root : Dtype) → t ≡ table root → some_over root ≡ false → plain_at root path ≡ refused 26
    walking_nowhere q root h s =
        let r = w.goes root h s in
        let v : Steps t e r.d (get_or path k 0) None = rw q at (g r.d r.there) in
        r.same_plain ∙ rw (drop-cons path k 0 l) (v (drop (suc k) path))

    module _ (spot : Reached) (q : y ≡ Some spot) where
      leads : (d : Dtype) → ListedSized t e d → Leads t d (e + entries_of d) (get_or path k 0) spot.entry spot.before.0
      leads d s = let v : Steps t e d (get_or path k 0) (Some spot) = rw q at (g d s) in v

      walking_fits : (d : Dtype) × (t ≡ table d) × (some_over d ≡ false) → before + spot.before.0 < 2 ^ 64
      walking_fits (root, h, s) =
          let r = w.goes root h s in
          omega (arith, r.inside, (leads r.d r.there).inside, size_fits root s)

      pub walking_over : {A : Type 0} → (d : Dtype) × (t ≡ table d) × (some_over d ≡ false) → None ≡ byte_count (number (before + spot.before.0)) → A
      walking_over g o = absurd (omega (arith, walking_fits g, bytes_over_lem (before + spot.before.0) o))

      pub walking_next : (more : Bytes) → Some more ≡ byte_count (number (before + spot.before.0)) → Walking t path spot.entry more.0 (k + 1)
      walking_next more m =
          let z : k + 1 ≡ suc k = omega arith in
          rw (← (bytes_back (before + spot.before.0) more m).0)
          (record {
            within = omega arith;
            goes = λ root h s.
                let r = w.goes root h s in
                let v = leads r.d r.there in
                record {
                  d = v.inner;
                  there = record { up = v.up; name = v.name; rest = v.rest; is = v.there; none_over = v.none_over };
                  same_plain = rw z (r.same_plain ∙ rw (drop-cons path k 0 l) (v.same_plain (drop (suc k) path)));
                  further = rw z (further_next r.d v.inner r.further (v.further (drop (suc k) path)));
                  inside = omega (arith, r.inside, v.inside);
                };
          })
        where
          further_next : {o : ℕ} (d inner : Dtype) → o ≡ before + offset d (drop k path)
              → offset d (get_or path k 0 ∷ drop (suc k) path) ≡ spot.before.0 + offset inner (drop (suc k) path)
              → o ≡ before + spot.before.0 + offset inner (drop (suc k) path)
          further_next {o} d inner a b =
              let c : o ≡ before + offset d (get_or path k 0 ∷ drop (suc k) path) = rw (drop-cons path k 0 l) at a in
              omega arith

  -- the path's end
  pub walking_end : length path ≤ k → (root : Dtype) → t ≡ table root → some_over root ≡ false
      → (d : Dtype) × ListedSized t e d × (plain_at root path ≡ plain_at d []) × (offset root path ≡ before + offset d [])
  walking_end l root h s =
      let r = w.goes root h s in
      let a : drop k path ≡ [] = drop_of_length-le path {i = k} l in
      (r.d, r.there, rw a at r.same_plain, rw a at r.further)

-- a path leads to a plain type, and what is none is refused
in_array : (n : ℕ) (d : Dtype) (i : ℕ) (p : List ℕ) → PathTo d p ⊎ (plain_at d p ≡ refused 26) → (i < n) ⊎ (n ≤ i)
    → ((i < n) × PathTo d p) ⊎ (plain_at (array n d) (i ∷ p) ≡ refused 26)
in_array n d i p (inl g) (inl l) = inl (l, g)
in_array n d i p (inr g) (inl l) = inr (simp (lt-leb n i l, g))
in_array n d i p r (inr l) = inr (simp (le-leb n i l))

mutual
  pub path_or_none : (d : Dtype) (p : List ℕ) → PathTo d p ⊎ (plain_at d p ≡ refused 26)
  path_or_none (plain t) [] = inl tt
  path_or_none (plain t) (i ∷ p) = inr refl
  path_or_none (array n d) [] = inr refl
  path_or_none (array n d) (i ∷ p) = in_array n d i p (path_or_none d p) (lt_or_ge i n)
  path_or_none (record_of fs) [] = inr refl
  path_or_none (record_of fs) (i ∷ p) = field_or_none fs i p

  field_or_none : (fs : Fields) (i : ℕ) (p : List ℕ) → FieldPath fs i p ⊎ (plain_of fs i p ≡ refused 26)
  field_or_none end_of_fields i p = inr refl
  field_or_none (field_then name d fs) zero p = path_or_none d p
  field_or_none (field_then name d fs) (suc i) p = field_or_none fs i p

pub plain_path : (d : Dtype) (p : List ℕ) (ty : TypeStr) → plain_at d p ≡ gives ty → PathTo d p
plain_path d p ty h = go (path_or_none d p)
  where
    go : PathTo d p ⊎ (plain_at d p ≡ refused 26) → PathTo d p
    go (inl g) = g
    go (inr g) = let z : ◌≡◌ {A = ℕ} 0 1 = cc in absurd (omega arith)

-- it is a type that some type string gives, where all are
abbrev bad : Dtype → Bool
bad d = plain_only (λ t. not (is_type t)) d

mutual
  path_typed : (d : Dtype) (p : List ℕ) (ty : TypeStr) → some_entry bad d ≡ false → PathTo d p → plain_at d p ≡ gives ty → is_type ty ≡ true
  path_typed (plain t) [] ty u g h = let z : t ≡ ty = cc in rw (← z) (not-false (is_type t) u)
  path_typed (array n d) (i ∷ p) ty u g h = path_typed d p ty u g.1 (simp (lt-leb n i g.0) at h)
  path_typed (record_of fs) (i ∷ p) ty u g h = field_typed fs i p ty u g h
  path_typed (plain t) (i ∷ p) ty u g h = elim g [ ]
  path_typed (array n d) [] ty u g h = elim g [ ]
  path_typed (record_of fs) [] ty u g h = elim g [ ]

  field_typed : (fs : Fields) (i : ℕ) (p : List ℕ) (ty : TypeStr) → some_entry_in bad fs ≡ false → FieldPath fs i p → plain_of fs i p ≡ gives ty → is_type ty ≡ true
  field_typed (field_then name d fs) zero p ty u g h = path_typed d p ty (or_left (some_entry bad d) (some_entry_in bad fs) u) g h
  field_typed (field_then name d fs) (suc i) p ty u g h = field_typed fs i p ty (or_right (some_entry bad d) (some_entry_in bad fs) u) g h
  field_typed end_of_fields i p ty u g h = elim g [ ]

pub plain_typed : (d : Dtype) (p : List ℕ) (ty : TypeStr) → untyped d ≡ false → plain_at d p ≡ gives ty → is_type ty ≡ true
plain_typed d p ty u h = path_typed d p ty u (plain_path d p ty h) h

-- the entry at the path's end
bare_type : (e : Entry) → e.order ≡ 0 → type_of e ≡ refused 27
unfolding type_of order_of
bare_type e h = rw h

typed_type : (e : Entry) (ty : TypeStr) → e.order ≡ order_byte ty.order → e.letter ≡ letter_byte ty.letter → e.number ≡ ty.size
    → e.units ≡ units_number ty.units → is_type ty ≡ true → type_of e ≡ gives ty
typed_type e ty a b c d i = type_of_written e ty (record { order = a; letter = b; number = c; units = d }) ∙ simp i

module _ (t path : List ℕ) (e before k : ℕ) (w : Walking t path e before k) (l : length path ≤ k) (x : Entry) (q : x ≡ entry_at t e)
    (root : Dtype) (h : t ≡ table root) (s : some_over root ≡ false) (u : untyped root ≡ false) where
  at_end : (d : Dtype) (v : ListedSized t e d) → plain_at root path ≡ plain_at d [] → offset root path ≡ before + offset d []
      → ((type_of x ≡ refused 27) × (plain_at root path ≡ refused 26))
      ⊎ ((ty : TypeStr) × (type_of x ≡ gives ty) × (plain_at root path ≡ gives ty) × (before ≡ offset root path) × (x.bytes ≡ plain_bytes ty))
  at_end (plain ty) v a b =
      let y = entry_is t e 0 x q (plain ty) v in
      let i = plain_typed root path ty u a in
      let z = bytes_exact (plain ty) t e v.up v.name v.rest v.is v.none_over in
      inr (
        ty,
        typed_type x ty (ap (λ (c : Entry). c.order) y) (ap (λ (c : Entry). c.letter) y) (ap (λ (c : Entry). c.number) y) (ap (λ (c : Entry). c.units) y) i,
        a,
        omega arith,
        ap (λ (c : Entry). c.bytes) q ∙ z,
      )
  at_end (array n d) v a b = inl (bare_type x (ap (λ (c : Entry). c.order) (entry_is t e 0 x q (array n d) v)), a)
  at_end (record_of fs) v a b = inl (bare_type x (ap (λ (c : Entry). c.order) (entry_is t e 0 x q (record_of fs) v)), a)

  ended : ((type_of x ≡ refused 27) × (plain_at root path ≡ refused 26))
      ⊎ ((ty : TypeStr) × (type_of x ≡ gives ty) × (plain_at root path ≡ gives ty) × (before ≡ offset root path) × (x.bytes ≡ plain_bytes ty))
  ended = let r = walking_end t path e before k w l root h s in at_end r.0 r.1 r.2 r.3

  pub ends_nowhere : refused 27 ≡ type_of x → plain_at root path ≡ refused 26
  ends_nowhere p = go ended
    where
      go : ((type_of x ≡ refused 27) × (plain_at root path ≡ refused 26))
          ⊎ ((ty : TypeStr) × (type_of x ≡ gives ty) × (plain_at root path ≡ gives ty) × (before ≡ offset root path) × (x.bytes ≡ plain_bytes ty))
          → plain_at root path ≡ refused 26
      go (inl r) = r.1
      go (inr r) = let v = p ∙ r.1 in let z : ◌≡◌ {A = ℕ} 0 1 = cc in absurd (omega arith)

  pub ends_at : (ty : TypeStr) → gives ty ≡ type_of x → (plain_at root path ≡ gives ty) × (before ≡ offset root path) × (x.bytes ≡ plain_bytes ty)
  ends_at ty p = go ended
    where
      go : ((type_of x ≡ refused 27) × (plain_at root path ≡ refused 26))
          ⊎ ((ty : TypeStr) × (type_of x ≡ gives ty) × (plain_at root path ≡ gives ty) × (before ≡ offset root path) × (x.bytes ≡ plain_bytes ty))
          → (plain_at root path ≡ gives ty) × (before ≡ offset root path) × (x.bytes ≡ plain_bytes ty)
      go (inl r) = let v = p ∙ r.0 in let z : ◌≡◌ {A = ℕ} 0 1 = cc in absurd (omega arith)
      go (inr r) =
          let v = p ∙ r.1 in
          let z : r.0 ≡ ty = cc in
          (r.2 ∙ ap gives z, r.3, r.4 ∙ ap (λ (y : TypeStr). plain_bytes y) z)
