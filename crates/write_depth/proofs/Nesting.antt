-- How many brackets a dtype's text opens, seen in its table: a field opens one, and one in it for a sub-shape; a record one; a type and an array level none.
use Prim.Native.Nat.{ℕ, zero, suc, ◌+◌, ◌-◌, ◌<◌, ◌≤◌}
use native.Mathlib.Omega.{arith}
use mathlib.Core.Path.{◌≡◌, refl, sym, ap, ◌∙◌}
use mathlib.Core.Bool.{Bool, true, false, cond, ◌&&◌, and-true, and-false}
use mathlib.Core.List.{List, [], ◌∷◌}
use lib.Dec.{eqb}
use lib.ListN.{length}
use Rattle.literal_grammar.specs.Value.{Value}
use Rattle.literal_grammar.specs.Print.{Layout, value_of, values_of}
use Rattle.dtype.specs.declared.Entry.{Entry}
use Rattle.dtype.specs.Dtype.{Dtype, Fields, plain, array, record_of, end_of_fields, field_then}
use Rattle.dtype.specs.Entries.{field_count, entries_of}
use Rattle.dtype.specs.EntryOf.{entry_of, kind_column}
use Rattle.dtype.specs.Agrees.{entry_at}
use Rattle.dtype.proofs.Flat.{some_entry_lem}
use Rattle.record.specs.Layout.{dimension_row, shape_layout, levels_of, field_layout, descr_layout, field_row}
use Rattle.record.specs.Within.{within, all_within}
use Rattle.write_depth.specs.Listed.{InTableAt, FieldsInTableAt}
use Rattle.write_depth.proofs.UnderLevels.{innermost_of, Innermost}
use Rattle.write_depth.proofs.Listing.{listed_entry, listed_room, listed_fields, listed_first, listed_later, innermost_descr, under_record}

-- ---- `within`
module _ (t : List ℕ) (e : ℕ) where
  listed_inside : (d : Dtype) → InTableAt t e d → e < length t
  listed_inside d l = omega (arith, listed_room t e d l, some_entry_lem d)

  module _ (x : Entry) (q : x ≡ entry_at t e) (k : ℕ) where
    kind_is : (d : Dtype) (l : InTableAt t e d) → x.kind ≡ (entry_of d l.up l.name).kind
    kind_is d l = ap (λ (a : Entry). a.kind) (q ∙ listed_entry t e d l)

    pub plain_within : x.kind ≡ 0 → (d : Dtype) → InTableAt t e d → true ≡ within (value_of (descr_layout d)) k
    plain_within z (plain ty) l = refl
    plain_within z (array n d) l = absurd (omega (arith, kind_is (array n d) l))
    plain_within z (record_of fs) l = absurd (omega (arith, kind_is (record_of fs) l))

    module _ (not_plain : x.kind ≡ 0 → ⊥) (not_array : x.kind ≡ 1 → ⊥) where
      fields_listed : (d : Dtype) × InTableAt t e d → (fs : Fields) × (x.number ≡ field_count fs) × FieldsInTableAt t (e + 1) fs
      fields_listed (plain ty, l) = absurd (not_plain (kind_is (plain ty) l))
      fields_listed (array n d, l) = absurd (not_array (kind_is (array n d) l))
      fields_listed (record_of fs, l) = (fs, ap (λ (a : Entry). a.number) (q ∙ listed_entry t e (record_of fs) l), listed_fields t e fs l)

      pub record_none : k ≡ 0 → (d : Dtype) → InTableAt t e d → false ≡ within (value_of (descr_layout d)) k
      record_none z (plain ty) l = absurd (not_plain (kind_is (plain ty) l))
      record_none z (array n d) l = absurd (not_array (kind_is (array n d) l))
      record_none z (record_of fs) l = rw z

      pub record_within : (k ≡ 0 → ⊥) → (r : Bool)
          → ((fs : Fields) → x.number ≡ field_count fs → FieldsInTableAt t (e + 1) fs → r ≡ all_within (values_of (field_row fs)) (k - 1))
          → (d : Dtype) → InTableAt t e d → r ≡ within (value_of (descr_layout d)) k
      record_within z r h (plain ty) l = absurd (not_plain (kind_is (plain ty) l))
      record_within z r h (array n d) l = absurd (not_array (kind_is (array n d) l))
      record_within z r h (record_of fs) l =
          let v : k ≡ suc (k - 1) = omega arith in
          rw v (h fs (ap (λ (a : Entry). a.number) (q ∙ listed_entry t e (record_of fs) l)) (listed_fields t e fs l))

-- ---- `within` where the type is under array levels: its entry is r
module _ (t : List ℕ) (e r : ℕ) (under : (d : Dtype) → InTableAt t e d → Innermost t e d r) where
  pub under_inside : (d : Dtype) → InTableAt t e d → (e ≤ r) × (r < length t)
  under_inside d l = (omega (arith, (under d l).passed), listed_inside t r (innermost_of d) (under d l).listed)

  pub under_within : (k : ℕ) (a : Bool) → ((d : Dtype) → InTableAt t r d → a ≡ within (value_of (descr_layout d)) k)
      → (d : Dtype) → InTableAt t e d → a ≡ within (value_of (descr_layout d)) k
  under_within k a h d l = h (innermost_of d) (under d l).listed ∙ ap (λ (y : Layout). within (value_of y) k) (innermost_descr d)

  module _ (x : Entry) (q : x ≡ entry_at t r) (not_plain : x.kind ≡ 0 → ⊥) where
    pub under_listed : (d : Dtype) × InTableAt t e d → (fs : Fields) × (x.number ≡ field_count fs) × FieldsInTableAt t (r + 1) fs
    under_listed (d, l) = fields_listed t r x q 0 not_plain (under_record t e r under x q d l) (innermost_of d, (under d l).listed)

-- ---- a field
abbrev pub opens : (kind : ℕ) → ℕ
opens kind = cond (eqb kind 1) 2 1

row_within : (j k : ℕ) (s : List ℕ) → all_within (values_of (dimension_row j s)) k ≡ true
row_within j k [] = refl
row_within j k (n ∷ s) = row_within j k s

pub shape_within : (j k : ℕ) (s : List ℕ) → within (value_of (shape_layout j s)) (suc k) ≡ true
shape_within j k [] = refl
shape_within j k (n ∷ s) = row_within j k s

-- the value of a field's text
abbrev field_of : List ℕ → Dtype → Value
field_of name d = value_of (field_layout name (descr_layout d) (levels_of d))

field_few : (name : List ℕ) (d : Dtype) (k : ℕ) → k < opens (kind_column d) → within (field_of name d) k ≡ false
field_few name (plain ty) zero h = refl
field_few name (plain ty) (suc k) h = absurd (omega arith)
field_few name (array n d) zero h = refl
field_few name (array n d) (suc zero) h = and-false (within (value_of (descr_layout d)) 0)
field_few name (array n d) (suc (suc k)) h = absurd (omega arith)
field_few name (record_of fs) zero h = refl
field_few name (record_of fs) (suc k) h = absurd (omega arith)

field_as : (name : List ℕ) (d : Dtype) (k : ℕ) → opens (kind_column d) ≤ k → within (field_of name d) k ≡ within (value_of (descr_layout d)) (k - 1)
field_as name (plain ty) zero h = absurd (omega arith)
field_as name (plain ty) (suc k) h = refl
field_as name (array n d) zero h = absurd (omega arith)
field_as name (array n d) (suc zero) h = absurd (omega arith)
field_as name (array n d) (suc (suc k)) h =
    let z : suc (suc k) - 1 ≡ suc k = omega arith in
    rw (row_within 0 k (levels_of d), z) (and-true (within (value_of (descr_layout d)) (suc k)))
field_as name (record_of fs) zero h = absurd (omega arith)
field_as name (record_of fs) (suc k) h =
    let z : suc k - 1 ≡ k = omega arith in
    rw z (and-true (within (value_of (descr_layout (record_of fs))) k))

-- ---- `fields_within`: what is left of the fields decides
pub record Passing (t : List ℕ) (e k c i : ℕ) (fs : Fields) : Type 0 where
  pub still : Fields
  pub listed : FieldsInTableAt t c still
  pub counted : i + field_count still ≡ field_count fs
  pub further : e ≤ c
  pub decides : all_within (values_of (field_row fs)) k ≡ all_within (values_of (field_row still)) k

pub passing_end : (t : List ℕ) (e k c i : ℕ) (fs : Fields) → Passing t e k c i fs → field_count fs ≤ i → true ≡ all_within (values_of (field_row fs)) k
passing_end t e k c i fs g none = go g.still g.counted g.decides
  where
    go : (gs : Fields) → i + field_count gs ≡ field_count fs → all_within (values_of (field_row fs)) k ≡ all_within (values_of (field_row gs)) k → true ≡ all_within (values_of (field_row fs)) k
    go end_of_fields n d = sym d
    go (field_then name d gs) n u = absurd (omega arith)

module _ (t : List ℕ) (e k c i : ℕ) (fs : Fields) (g : Passing t e k c i fs) (more : i < field_count fs) (x : Entry) (q : x ≡ entry_at t c) where
  -- the dtype of the next field lies in the table
  pub passing_asks : (d : Dtype) × InTableAt t c d × (c + x.extent ≤ length t)
  passing_asks = go g.still g.counted g.listed
    where
      go : (gs : Fields) → i + field_count gs ≡ field_count fs → FieldsInTableAt t c gs → (d : Dtype) × InTableAt t c d × (c + x.extent ≤ length t)
      go end_of_fields n l = absurd (omega arith)
      go (field_then name d gs) n l =
          let f = listed_first t c name d gs l in
          (d, f, omega (arith, ap (λ (a : Entry). a.extent) (q ∙ listed_entry t c d f), listed_room t c d f))

  -- a row of fields is judged by its first where that is too deep
  pub passing_few : k < opens x.kind → false ≡ all_within (values_of (field_row fs)) k
  passing_few h = go g.still g.counted g.listed g.decides
    where
      go : (gs : Fields) → i + field_count gs ≡ field_count fs → FieldsInTableAt t c gs → all_within (values_of (field_row fs)) k ≡ all_within (values_of (field_row gs)) k
          → false ≡ all_within (values_of (field_row fs)) k
      go end_of_fields n l u = absurd (omega arith)
      go (field_then name d gs) n l u =
          let z : x.kind ≡ kind_column d = ap (λ (a : Entry). a.kind) (q ∙ listed_entry t c d (listed_first t c name d gs l)) in
          sym (u ∙ ap (λ (b : Bool). b && all_within (values_of (field_row gs)) k) (field_few name d k (rw z at h)))

  module _ (enough : opens x.kind ≤ k) (r : Bool) (inner : (d : Dtype) → InTableAt t c d → r ≡ within (value_of (descr_layout d)) (k - 1)) where
    first_is : (name : List ℕ) (d : Dtype) (gs : Fields) → FieldsInTableAt t c (field_then name d gs) → within (field_of name d) k ≡ r
    first_is name d gs l =
        let f = listed_first t c name d gs l in
        let z : x.kind ≡ kind_column d = ap (λ (a : Entry). a.kind) (q ∙ listed_entry t c d f) in
        field_as name d k (rw z at enough) ∙ sym (inner d f)

    pub passing_no : r ≡ false → false ≡ all_within (values_of (field_row fs)) k
    passing_no is_no = go g.still g.counted g.listed g.decides
      where
        go : (gs : Fields) → i + field_count gs ≡ field_count fs → FieldsInTableAt t c gs → all_within (values_of (field_row fs)) k ≡ all_within (values_of (field_row gs)) k
            → false ≡ all_within (values_of (field_row fs)) k
        go end_of_fields n l u = absurd (omega arith)
        go (field_then name d gs) n l u =
            sym (u ∙ ap (λ (b : Bool). b && all_within (values_of (field_row gs)) k) (first_is name d gs l ∙ is_no))

    pub passing_more : r ≡ true → Passing t e k (c + x.extent) (i + 1) fs
    passing_more is_yes = go g.still g.counted g.listed g.decides
      where
        go : (gs : Fields) → i + field_count gs ≡ field_count fs → FieldsInTableAt t c gs → all_within (values_of (field_row fs)) k ≡ all_within (values_of (field_row gs)) k
            → Passing t e k (c + x.extent) (i + 1) fs
        go end_of_fields n l u = absurd (omega arith)
        go (field_then name d gs) n l u =
            let z : x.extent ≡ entries_of d = ap (λ (a : Entry). a.extent) (q ∙ listed_entry t c d (listed_first t c name d gs l)) in
            record {
              still = gs;
              listed = rw z (listed_later t c name d gs l);
              counted = omega arith;
              further = omega (arith, g.further);
              decides = u ∙ ap (λ (b : Bool). b && all_within (values_of (field_row gs)) k) (first_is name d gs l ∙ is_yes);
            }
