-- The filling walk on plain values. A descr is a type string or a list of fields. What is kept along the fields: what is left to put on the table and on
-- the names as they are gives the due table and the due names. A record's entry comes after its fields, a field's levels after its type.
use Rattle.refusal.specs.Answers.{answer}
use Prim.Native.Nat.{ℕ, suc, ◌+◌, ◌-◌, ◌*◌, ◌^◌, ◌<◌, ◌≤◌}
use native.Mathlib.Omega.{arith}
use mathlib.Core.Path.{◌≡◌, refl, sym, ap, subst, ◌∙◌}
use mathlib.Core.List.{List, [], ◌∷◌, ◌++◌, append_assoc}
use mathlib.Core.Bool.{true, false}
use lib.ListN.{length, length-append, get_or}
use lib.Seq.{sets, length-sets}
use denote.Enum.Declared.{tag_of}
use types.Run.{OneOf}
use Rattle.counts.specs.Outcome.{Outcome, gives, refused, then, each}
use Rattle.dtype.specs.declared.Entry.{Entry}
use Rattle.counts.specs.Counts.{as_bytes}
use Rattle.counts.specs.declared.Bytes.{Bytes}
use Rattle.dtype.specs.Dtype.{Dtype, Fields, plain, record_of, end_of_fields, field_then, size_of, sizes_of}
use Rattle.dtype.specs.Entries.{entries_of, entries_in, field_count, levels}
use Rattle.dtype.specs.Record.{name_bytes_of, name_bytes_in, names_of, names_in, entry_width, flat, flats}
use Rattle.counts.specs.Number.{capped}
use Rattle.counts.proofs.Alike.{false_true}
use Rattle.counts.proofs.Apart.{refused_gives}
use Rattle.dtype.specs.EntryOf.{entry_of, entry_numbers}
use Rattle.dtype.proofs.Flat.{some_entry_lem, flat_length, names_length}
use Rattle.type_str.specs.declared.TypeStr.{TypeStr}
use Rattle.type_str.specs.TypeString.{type_string}
use Rattle.record.specs.Descr.{Field, arrays, descr_of, field_of, fields_of}
use Rattle.record.proofs.Levels.{arrays_entries, arrays_names, arrays_name_bytes}
use Rattle.literal_tokens.specs.Node.{Node, nodes, string, integer, True, False, None, list, tuple, dict}
use Rattle.literal_bytes.specs.declared.Parsed.{Parsed}
use Rattle.literal_bytes.specs.Got.{Got, got, pos}
use Rattle.literal.specs.Answer.{end_of}
use Rattle.literal.specs.Forget.{forget, forget_all}
use Rattle.literal_bytes.specs.Text.{byte_at, kind_of}
use Rattle.literal_escapes.specs.Strings.{spelled}
use Rattle.literal.specs.Literal.{value}
use Rattle.literal_bytes.specs.Gaps.{gap_at, then_at}
use Rattle.literal.specs.Rows.{RowOf}
use Rattle.literal_bytes.specs.declared.Gap.{Gap}
use Rattle.literal_bytes.specs.declared.Gap.TheVariants.{Item}
use Rattle.literal_bytes.specs.contracts.Gap.{the_type}
use Rattle.literal_bytes.proofs.Positions.{kind_in, get_d_any}
use Rattle.literal.proofs.View.{view, value_kind}
use Rattle.literal.proofs.Rows.{row_step}
use Rattle.literal.proofs.Ends.{Ahead, value_ahead}
use Rattle.literal_bytes.proofs.GapEnds.{then_ahead}
use Rattle.literal.proofs.Steps.{gap_left, gap_falls}
use Rattle.header.specs.declared.fill.DescrFilled.{DescrFilled}
use Rattle.header.specs.declared.fill.FieldsFilled.{FieldsFilled}
use Rattle.header.specs.declared.fill.NameFilled.{NameFilled}
use Rattle.shape_text.specs.Members.{closing_of}
use Rattle.descr_field.specs.declared.Typed.{Typed}
use Rattle.descr_field.specs.Begins.{gap_place, is_string}
use Rattle.table_fill.specs.Written.{type_in, put, bare, above}
use Rattle.table_fill.proofs.EntryStores.{sets_append, flat_front, names_front}
use Rattle.table_fill.proofs.Levels.{put_room, entry_before, size_over_lem}
use Rattle.table_fill.proofs.LevelLifts.{above_flat}
use Rattle.header.specs.Filled.{Narrow, NarrowIn, name_spelled, DueHead, Headed, DueShape, DueShapeAt, Shapes, Due, DueAt, Fills, Filled, DueFields, DueFieldsFrom, FillsFields, FilledFields}
use Rattle.header.proofs.FieldParts.{read_back, row_none, Opened, opened, DueField, FilledField}

-- ---- a type string
plain_back : (o : Outcome TypeStr) (d : Dtype) → each plain o ≡ gives d → (t : TypeStr) × (o ≡ gives t) × (d ≡ plain t)
plain_back (gives t) d h = (t, refl, sym (let z : plain t ≡ d = cc in z))
plain_back (refused n) d h = refused_gives h

record_back : (o : Outcome Fields) (d : Dtype) → each record_of o ≡ gives d → (fs : Fields) × (o ≡ gives fs) × (d ≡ record_of fs)
record_back (gives fs) d h = (fs, refl, sym (let z : record_of fs ≡ d = cc in z))
record_back (refused n) d h = refused_gives h

-- what the value at `at` is, by whether a string begins there
pub record Text (s : List ℕ) (at e : ℕ) (d : Dtype) : Type 0 where
  pub inside : at < length s
  pub ended : (spelled (byte_at s at) s (at + 1)).ended ≡ Parsed.Value e
  pub t : TypeStr
  pub is : type_string (spelled (byte_at s at) s (at + 1)).bytes ≡ gives t
  pub plainly : d ≡ plain t

pub record Listed (k : ℕ) (s : List ℕ) (at e : ℕ) (d : Dtype) : Type 0 where
  pub inside : at < length s
  pub deep : 0 < k
  pub ns : List Node
  pub row : RowOf (value (k - 1) s) s 93 ns (gap_at s (at + 1) 93) e
  pub fs : Fields
  pub is : fields_of (forget_all (nodes ns)) ≡ gives fs
  pub recorded : d ≡ record_of fs

module _ (k : ℕ) (s : List ℕ) (at e : ℕ) (d : Dtype) where
  pub text_due : (n : Node) → value k s at ≡ got n e → descr_of (forget n) ≡ gives d → is_string (kind_of (byte_at s at)) ≡ true → Text s at e d
  unfolding forget
  text_due (string x u) hv hd hq =
      let hk = value_kind k s at hv in
      let v = view k s at hv hk in
      let y : u ≡ (spelled (byte_at s at) s (at + 1)).bytes = cc in
      let b = plain_back (type_string u) d hd in
      record { inside = kind_in s at hk refl; ended = v.1; t = b.0; is = ap type_string (sym y) ∙ b.1; plainly = b.2 }
  text_due (integer x true n) hv hd hq = refused_gives hd
  text_due (integer x false n) hv hd hq = refused_gives hd
  text_due (True x) hv hd hq = refused_gives hd
  text_due (False x) hv hd hq = refused_gives hd
  text_due (None x) hv hd hq = refused_gives hd
  text_due (list x ns) hv hd hq = false_true (sym (ap is_string (value_kind k s at hv)) ∙ hq)
  text_due (tuple x ns) hv hd hq = refused_gives hd
  text_due (dict x ps) hv hd hq = refused_gives hd

  pub list_due : (n : Node) → value k s at ≡ got n e → descr_of (forget n) ≡ gives d → is_string (kind_of (byte_at s at)) ≡ false → Listed k s at e d
  unfolding forget
  list_due (string x u) hv hd hq = false_true (sym hq ∙ ap is_string (value_kind k s at hv))
  list_due (integer x true n) hv hd hq = refused_gives hd
  list_due (integer x false n) hv hd hq = refused_gives hd
  list_due (True x) hv hd hq = refused_gives hd
  list_due (False x) hv hd hq = refused_gives hd
  list_due (None x) hv hd hq = refused_gives hd
  list_due (list x ns) hv hd hq =
      let hk = value_kind k s at hv in
      let v = view k s at hv hk in
      let all = ap (λ (y : Node). descr_of (forget y)) v.2 in
      let b = record_back (fields_of (forget_all (nodes v.1))) d (sym all ∙ hd) in
      record { inside = kind_in s at hk refl; deep = v.0; ns = v.1; row = v.3; fs = b.0; is = b.1; recorded = b.2 }
  list_due (tuple x ns) hv hd hq = refused_gives hd
  list_due (dict x ps) hv hd hq = refused_gives hd

-- ---- a record: its entry after its fields
pub record_filled : (e entry up m byte : ℕ) (fs : Fields) (d : Dtype) (table names mid names' table' : List ℕ) (r : FieldsFilled) (x : Entry) → d ≡ record_of fs
    → FilledFields e (entry + 1) entry byte fs table names mid names' r
    → x ≡ record { parent = up; kind = 2; order = 0; letter = 0; number = r.count; units = 0; extent = r.entry - entry; bytes = r.size.0; name = m }
    → table' ≡ sets mid (entry_width * entry) (entry_numbers x []) → Filled e entry up m byte d table names table' names' (record { end = r.end; entry = r.entry; byte = r.byte; size = r.size })
record_filled e entry up m byte fs d table names mid names' table' r x hd w hx ht =
    let one : entry + 1 ≡ suc entry = omega arith in
    let ext : r.entry - entry ≡ suc (entries_in fs) = omega (arith, w.next) in
    let is : x ≡ entry_of (record_of fs) up m =
    hx ∙ ap (λ (y : ℕ). record { parent = up; kind = 2; order = 0; letter = 0; number = y; units = 0; extent = r.entry - entry; bytes = r.size.0; name = m }) w.counted
    ∙ ap (λ (y : ℕ). record { parent = up; kind = 2; order = 0; letter = 0; number = field_count fs; units = 0; extent = y; bytes = r.size.0; name = m }) ext
    ∙ ap (λ (y : ℕ). record { parent = up; kind = 2; order = 0; letter = 0; number = field_count fs; units = 0; extent = suc (entries_in fs); bytes = y; name = m }) w.sized in
    let n : entries_of d ≡ suc (entries_in fs) = ap entries_of hd in
    record {
      ends = w.ends;
      next = omega (arith, w.next, n);
      next_name = w.next_name ∙ ap (λ (y : Dtype). byte + name_bytes_of y) (sym hd);
      sized = w.sized ∙ ap (λ (y : Dtype). capped (size_of y)) (sym hd);
      table_after = ht ∙ ap (λ (y : List ℕ). sets y (entry_width * entry) (entry_numbers x [])) (w.table_after ∙ ap (λ (y : ℕ). sets table (entry_width * (entry + 1)) (flats fs y entry [])) one)
          ∙ entry_before x entry (entry + 1) (flats fs (suc entry) entry []) table one
          ∙ ap (λ (y : Entry). sets table (entry_width * entry) (entry_numbers y (flats fs (suc entry) entry []))) is
          ∙ ap (λ (y : Dtype). sets table (entry_width * entry) (flat y entry up m [])) (sym hd);
      names_after = w.names_after ∙ ap (λ (y : Dtype). sets names byte (names_of y [])) (sym hd);
    }

-- ---- fields, one after the other
add_back : (a : Outcome Field) (b : Outcome Fields) (fs : Fields) → then a (λ f. each (field_then f.name f.type) b) ≡ gives fs
    → (f : Field) × (gs : Fields) × (a ≡ gives f) × (b ≡ gives gs) × (fs ≡ field_then f.name f.type gs)
add_back (gives f) (gives gs) fs h = (f, gs, refl, refl, sym (let z : field_then f.name f.type gs ≡ fs = cc in z))
add_back (gives f) (refused n) fs h = refused_gives h
add_back (refused n) b fs h = refused_gives h

fields_back : (v : Node) (vs : List Node) (fs : Fields) → fields_of (forget_all (nodes (v ∷ vs))) ≡ gives fs
    → (f : Field) × (gs : Fields) × (field_of (forget v) ≡ gives f) × (fields_of (forget_all (nodes vs)) ≡ gives gs) × (fs ≡ field_then f.name f.type gs)
unfolding forget_all forget
fields_back v vs fs h = add_back (field_of (forget v)) (fields_of (forget_all (nodes vs))) fs h

fields_none : (fs : Fields) → fields_of (forget_all (nodes [])) ≡ gives fs → fs ≡ end_of_fields
unfolding forget_all
fields_none fs h = let z : end_of_fields ≡ fs = cc in sym z

-- one field and then the others, in the table and in the names
pub field_put : (f : Field) (gs : Fields) (at up : ℕ) (table : List ℕ)
    → sets table (entry_width * at) (flats (field_then f.name f.type gs) at up [])
    ≡ sets (sets table (entry_width * at) (flat f.type at up (length f.name) [])) (entry_width * (at + entries_of f.type)) (flats gs (at + entries_of f.type) up [])
field_put f gs at up table =
    let here = flat f.type at up (length f.name) [] in
    let more = flats gs (at + entries_of f.type) up [] in
    let i : entry_width * at + length here ≡ entry_width * (at + entries_of f.type) = omega (arith, flat_length f.type at up (length f.name) []) in
    ap (sets table (entry_width * at)) (flat_front f.type at up (length f.name) more) ∙ sets_append table (entry_width * at) here more ∙ ap (λ (j : ℕ). sets (sets table (entry_width * at) here) j more) i

pub name_put : (f : Field) (gs : Fields) (byte : ℕ) (names : List ℕ)
    → sets names byte (names_in (field_then f.name f.type gs) [])
    ≡ sets (sets names byte (f.name ++ names_of f.type [])) (byte + (length f.name + name_bytes_of f.type)) (names_in gs [])
name_put f gs byte names =
    let more = names_in gs [] in
    let w = f.name in
    let i : byte + length (w ++ names_of f.type []) ≡ byte + (length w + name_bytes_of f.type) = ap (λ (j : ℕ). byte + j) (length-append w (names_of f.type []) ∙ (let l = names_length f.type [] in omega (arith, l))) in
    ap (λ (l : List ℕ). sets names byte (w ++ l)) (names_front f.type more) ∙ ap (sets names byte) (sym (append_assoc w (names_of f.type []) more))
    ∙ sets_append names byte (w ++ names_of f.type []) more ∙ ap (λ (j : ℕ). sets (sets names byte (w ++ names_of f.type [])) j more) i

-- a field changes no length
field_long : {e entry up byte : ℕ} {f : Field} {table names table' names' : List ℕ} {r : DescrFilled} → FilledField e entry up byte f table names table' names' r → (length table' ≡ length table) × (length names' ≡ length names)
field_long {entry = entry} {up} {byte} {f} {table} {names} w = (
  ap length w.table_after ∙ length-sets table (entry_width * entry) (flat f.type entry up (length f.name) []),
  ap length w.names_after ∙ length-sets names byte (f.name ++ names_of f.type []),
)

-- a field ends after it begins
field_less : (k : ℕ) (s : List ℕ) (p q : ℕ) (v : Node) (g g' : Gap) (end : ℕ) → g ≡ Item p → value k s p ≡ got v q → end ≡ q → g' ≡ then_at s end 93 → gap_left (length s) g' < gap_left (length s) g
field_less k s p q v g g' end hg hv he hg' =
    let a : (p < q) × (q ≤ length s) = subst (λ (x : Got Node). Ahead p (length s) (pos x)) hv (value_ahead k s p) in
    rw (hg, hg', he) (gap_falls p q (length s) (then_at s q 93) a.0 a.1 (then_ahead s q 93 (omega arith)))

module _ (k : ℕ) (s : List ℕ) (from entry up byte : ℕ) (table0 names0 : List ℕ) where
  pub record Left (g : Gap) (at b count : ℕ) (size : Bytes) (table names : List ℕ) (fs : Fields) (e : ℕ) : Type 0 where
    pub us : List Node
    pub gs : Fields
    pub row : RowOf (value k s) s 93 us g e
    pub is : fields_of (forget_all (nodes us)) ≡ gives gs
    pub narrow : NarrowIn gs
    pub adds : at + entries_in gs ≡ entry + entries_in fs
    pub adds_names : b + name_bytes_in gs ≡ byte + name_bytes_in fs
    pub counts : count + field_count gs ≡ field_count fs
    pub sizes : capped (size.0 + sizes_of gs) ≡ capped (sizes_of fs)
    pub due : sets table (entry_width * at) (flats gs at up []) ≡ sets table0 (entry_width * entry) (flats fs entry up [])
    pub due_names : sets names b (names_in gs []) ≡ sets names0 byte (names_in fs [])

  pub record Filling (g : Gap) (at b count : ℕ) (size : Bytes) (table names : List ℕ) : Type 0 where
    pub long : length table ≡ length table0
    pub long_names : length names ≡ length names0
    pub low : count ≤ at
    pub fits : capped size.0 ≡ size.0
    pub goes : (ns : List Node) (e : ℕ) (fs : Fields) → DueFields k s from entry table0 byte names0 ns e fs → Left g at b count size table names fs e

  pub filling_start : (g : Gap) → g ≡ gap_at s from 93 → Filling g entry byte 0 (as_bytes 0) table0 names0
  filling_start g hg =
      record {
        long = refl;
        long_names = refl;
        low = omega arith;
        fits = omega arith;
        goes = λ ns e fs h.
            record {
              us = ns;
              gs = fs;
              row = subst (λ (x : Gap). RowOf (value k s) s 93 ns x e) (sym hg) h.row;
              is = h.is;
              narrow = h.narrow;
              adds = refl;
              adds_names = refl;
              counts = omega arith;
              sizes = ap capped (let z : 0 + sizes_of fs ≡ sizes_of fs = omega arith in z);
              due = refl;
              due_names = refl;
            };
      }

  module _ (g : Gap) (at b count : ℕ) (size : Bytes) (table names : List ℕ) (w : Filling g at b count size table names) where
    -- the next field, with its room
    pub filling_field : (p : ℕ) → g ≡ Item p → (ns : List Node) (e : ℕ) (fs : Fields) → DueFields k s from entry table0 byte names0 ns e fs
        → (v : Node) × (q : ℕ) × (f : Field) × DueField k s p at table b names v q f
    filling_field p hg ns e fs h =
        let l = w.goes ns e fs h in
        let x = row_step (value k s) s 93 l.us p e (subst (λ (y : Gap). RowOf (value k s) s 93 l.us y e) hg l.row) in
        let y = fields_back x.0 x.1 l.gs (sym (ap (λ (z : List Node). fields_of (forget_all (nodes z))) x.3) ∙ l.is) in
        let f = y.0 in
        let nar : NarrowIn (field_then f.name f.type y.1) = subst (λ (z : Fields). NarrowIn z) y.4 l.narrow in
        let m1 : entries_in l.gs ≡ entries_of f.type + entries_in y.1 = ap entries_in y.4 in
        let m2 : name_bytes_in l.gs ≡ length f.name + (name_bytes_of f.type + name_bytes_in y.1) = ap name_bytes_in y.4 in (
          x.0,
          x.2,
          f,
          record {
            one = record { there = x.4; is = y.2 };
            narrow = nar.0;
            room = omega (arith, l.adds, m1, h.room, w.long);
            name_room = omega (arith, l.adds_names, m2, h.name_room, w.long_names);
          },
        )

    -- the field was filled, and what is left is less and goes on after it
    module _ (p : ℕ) (hg : g ≡ Item p) (r : DescrFilled) (g' : Gap) (table' names' : List ℕ) (hg' : g' ≡ then_at s r.end 93)
        (hf : (v : Node) (q : ℕ) (f : Field) → DueField k s p at table b names v q f → FilledField q at up b f table names table' names' r)
        (ns₀ : List Node) (e₀ : ℕ) (fs₀ : Fields) (h₀ : DueFields k s from entry table0 byte names0 ns₀ e₀ fs₀) where
      pub filling_less : gap_left (length s) g' < gap_left (length s) g
      filling_less =
          let x = filling_field p hg ns₀ e₀ fs₀ h₀ in
          field_less k s p x.1 x.0 g g' r.end hg x.3.one.there (hf x.0 x.1 x.2 x.3).ends hg'

      pub filling_more : (size' : Bytes) → size' ≡ as_bytes (capped (size.0 + r.size.0)) → Filling g' r.entry r.byte (count + 1) size' table' names'
      filling_more size' h' =
          let hs = ap (λ (b : Bytes). b.0) h' in
          let x₀ = filling_field p hg ns₀ e₀ fs₀ h₀ in
          let z₀ = hf x₀.0 x₀.1 x₀.2 x₀.3 in
          record {
            long = (field_long z₀).0 ∙ w.long;
            long_names = (field_long z₀).1 ∙ w.long_names;
            low = omega (arith, w.low, z₀.next, some_entry_lem x₀.2.type);
            fits = omega arith;
            goes = λ ns e fs h.
                let l = w.goes ns e fs h in
                let x = row_step (value k s) s 93 l.us p e (subst (λ (y : Gap). RowOf (value k s) s 93 l.us y e) hg l.row) in
                let y = fields_back x.0 x.1 l.gs (sym (ap (λ (z : List Node). fields_of (forget_all (nodes z))) x.3) ∙ l.is) in
                let f = y.0 in
                let gs = y.1 in
                let nar : NarrowIn (field_then f.name f.type gs) = subst (λ (z : Fields). NarrowIn z) y.4 l.narrow in
                let m1 : entries_in l.gs ≡ entries_of f.type + entries_in gs = ap entries_in y.4 in
                let m2 : name_bytes_in l.gs ≡ length f.name + (name_bytes_of f.type + name_bytes_in gs) = ap name_bytes_in y.4 in
                let m3 : field_count l.gs ≡ suc (field_count gs) = ap field_count y.4 in
                let m4 : sizes_of l.gs ≡ size_of f.type + sizes_of gs = ap sizes_of y.4 in
                let due : DueField k s p at table b names x.0 x.2 f =
                record {
                  one = record { there = x.4; is = y.2 };
                  narrow = nar.0;
                  room = omega (arith, l.adds, m1, h.room, w.long);
                  name_room = omega (arith, l.adds_names, m2, h.name_room, w.long_names);
                } in
                let z = hf x.0 x.2 f due in
                record {
                  us = x.1;
                  gs = gs;
                  row = subst (λ (q : Gap). RowOf (value k s) s 93 x.1 q e) (ap (λ (q : ℕ). then_at s q 93) (sym z.ends) ∙ sym hg') x.5;
                  is = y.3;
                  narrow = nar.1;
                  adds = omega (arith, z.next, m1, l.adds);
                  adds_names = omega (arith, z.next_name, m2, l.adds_names);
                  counts = omega (arith, m3, l.counts);
                  sizes = omega (arith, hs, z.sized, m4, l.sizes);
                  due = ap (λ (q : List ℕ). sets q (entry_width * r.entry) (flats gs r.entry up [])) z.table_after
                      ∙ ap (λ (q : ℕ). sets (sets table (entry_width * at) (flat f.type at up (length f.name) [])) (entry_width * q) (flats gs q up [])) z.next
                      ∙ sym (field_put f gs at up table) ∙ ap (λ (q : Fields). sets table (entry_width * at) (flats q at up [])) (sym y.4) ∙ l.due;
                  due_names = ap (λ (q : List ℕ). sets q r.byte (names_in gs [])) z.names_after
                      ∙ ap (λ (q : ℕ). sets (sets names b (f.name ++ names_of f.type [])) q (names_in gs [])) z.next_name
                      ∙ sym (name_put f gs b names) ∙ ap (λ (q : Fields). sets names b (names_in q [])) (sym y.4) ∙ l.due_names;
                };
          }

    pub filling_end : OneOf (0 ∷ 2 ∷ []) (tag_of the_type g) → (end : ℕ) → end ≡ gap_place g → (ns : List Node) (e : ℕ) (fs : Fields) → DueFields k s from entry table0 byte names0 ns e fs
        → FilledFields e entry up byte fs table0 names0 table names (record { end = end; entry = at; byte = b; size = size; count = count })
    filling_end o end hend ns e fs h =
        let l = w.goes ns e fs h in
        let z = row_none (value k s) s 93 l.us g e o l.row in
        let none : l.gs ≡ end_of_fields = fields_none l.gs (sym (ap (λ (q : List Node). fields_of (forget_all (nodes q))) z.0) ∙ l.is) in
        let m1 : entries_in l.gs ≡ 0 = ap entries_in none in
        let m2 : name_bytes_in l.gs ≡ 0 = ap name_bytes_in none in
        let m3 : field_count l.gs ≡ 0 = ap field_count none in
        let m4 : sizes_of l.gs ≡ 0 = ap sizes_of none in
        record {
          ends = hend ∙ z.1;
          next = omega (arith, l.adds, m1);
          next_name = omega (arith, l.adds_names, m2);
          sized = omega (arith, l.sizes, m4, w.fits);
          counted = omega (arith, l.counts, m3);
          table_after = sym (ap (λ (q : Fields). sets table (entry_width * at) (flats q at up [])) none) ∙ l.due;
          names_after = sym (ap (λ (q : Fields). sets names b (names_in q [])) none) ∙ l.due_names;
        }

-- ---- a type string's entry
pub text_filled : (e entry up m byte : ℕ) (d : Dtype) (t u : TypeStr) (table names table' : List ℕ) (size : Bytes) (end : ℕ) → d ≡ plain t → u ≡ t → end ≡ e → size ≡ as_bytes (capped (size_of (plain u)))
    → table' ≡ sets table (entry_width * entry) (entry_numbers (entry_of (plain u) up m) []) → Filled e entry up m byte d table names table' names (record { end = end; entry = entry + 1; byte = byte; size = size })
text_filled e entry up m byte d t u table names table' size end hd hu he hs ht =
    let is : plain u ≡ d = ap plain hu ∙ sym hd in
    record {
      ends = he;
      next = ap (λ (y : Dtype). entry + entries_of y) (sym hd);
      next_name = (let z : byte ≡ byte + 0 = omega arith in z) ∙ ap (λ (y : Dtype). byte + name_bytes_of y) (sym hd);
      sized = ap (λ (b : Bytes). b.0) hs ∙ ap (λ (y : Dtype). capped (size_of y)) is;
      table_after = ht ∙ ap (λ (y : Dtype). sets table (entry_width * entry) (flat y entry up m [])) is;
      names_after = ap (λ (y : Dtype). sets names byte (names_of y [])) (sym hd);
    }

-- few levels
pub narrow_levels : (ns : List ℕ) (d : Dtype) → Narrow (arrays ns d) → (length ns ≤ 32) × Narrow d
narrow_levels [] d h = (omega arith, h)
narrow_levels (n ∷ ns) d h = (omega (arith, h.0, deep ns), (narrow_levels ns d h.1).1)
  where
    deep : (ns : List ℕ) → length ns ≤ levels (arrays ns d)
    deep [] = omega arith
    deep (n ∷ ns) = omega (arith, deep ns)

-- ---- a field
module _ (k : ℕ) (s : List ℕ) (at entry up byte : ℕ) (table names : List ℕ) (close : ℕ) (hc : close ≡ closing_of (kind_of (byte_at s at))) (n : Node) (e : ℕ) (f : Field) (due : DueField k s at entry table byte names n e f) where
  w : Opened k s at close e f
  w = opened k s at close hc n e f due.one

  entries_are : entries_of f.type ≡ length w.ns + entries_of w.d
  entries_are = ap entries_of w.typed ∙ arrays_entries w.ns w.d

  bytes_are : name_bytes_of f.type ≡ name_bytes_of w.d
  bytes_are = ap name_bytes_of w.typed ∙ arrays_name_bytes w.ns w.d

  few_levels : (length w.ns ≤ 32) × Narrow w.d
  few_levels = narrow_levels w.ns w.d (subst (λ (x : Dtype). Narrow x) w.typed due.narrow)

  pub field_deep : 0 < k
  field_deep = w.deep

  pub head_due : DueHead s at close byte names
  head_due = let l = ap length w.named in record { inside = w.inside; begins = w.begins; room = omega (arith, due.name_room, l) }

  module _ (h : NameFilled) (names1 : List ℕ) (hh : Headed s at close byte names names1 h) where
    length_is : h.len ≡ length f.name
    length_is = hh.counted ∙ sym (ap length w.named)

    inner : Due (k - 1) s h.inner entry table h.byte names1 w.node w.end_of_node w.d
    inner =
        let len = ap length hh.names_after ∙ length-sets names byte (name_spelled s at close).bytes in
        record {
          there = ap (value (k - 1) s) hh.goes_on ∙ w.there;
          is = w.is;
          narrow = few_levels.1;
          room = omega (arith, due.room, entries_are);
          name_room = omega (arith, due.name_room, bytes_are, length_is, hh.counted, hh.next_name, len);
        }

    pub inner_due : DueAt (k - 1) s h.inner entry table h.byte names1
    inner_due = (w.node, w.end_of_node, w.d, inner)

    module _ (table1 names2 : List ℕ) (r : DescrFilled) (fills : Fills (k - 1) s h.inner entry up h.len h.byte table names1 table1 names2 r) where
      inner_filled : Filled w.end_of_node entry up h.len h.byte w.d table names1 table1 names2 r
      inner_filled = fills w.node w.end_of_node w.d inner

      after_due : DueShape (k - 1) s close table1 r e w.ns
      after_due =
          let fl = inner_filled in
          let long = ap length fl.table_after ∙ length-sets table (entry_width * entry) (flat w.d entry up h.len []) in
          record {
            after = record {
              us = w.us;
              row = subst (λ (q : ℕ). RowOf (value (k - 1) s) s close w.us (then_at s q close) e) (sym fl.ends) w.row;
              few = w.few;
              shaped = w.shaped;
              low = few_levels.0;
            };
            room = omega (arith, long, fl.next, due.room, entries_are);
          }

      pub shape_due : DueShapeAt (k - 1) s close table1 r
      shape_due = (e, w.ns, after_due)

      pub field_whole : length table < 2 ^ 64 → (table2 : List ℕ) (o : DescrFilled) → Shapes (k - 1) s close entry up h.len table1 table2 r o → FilledField e entry up byte f table names table2 names2 o
      field_whole big table2 o l =
          let fl = inner_filled in
          let sh = l e w.ns after_due in
          let ws = (name_spelled s at close).bytes in
          let more = names_of w.d [] in
          record {
            ends = sh.ends;
            next = omega (arith, sh.next, fl.next, entries_are);
            next_name = omega (arith, sh.next_name, fl.next_name, bytes_are, length_is, hh.counted, hh.next_name);
            sized = sh.sized ∙ size_over_lem w.ns w.d r.size.0 fl.sized ∙ ap (λ (x : Dtype). capped (size_of x)) (sym w.typed);
            table_after = sh.table_after ∙ ap (above w.ns entry up h.len r.entry r.size.0) fl.table_after
                ∙ above_flat w.ns w.d entry up h.len r.entry r.size.0 table fl.sized fl.next (omega (arith, fl.next, due.room, entries_are)) big
                ∙ ap (λ (x : ℕ). sets table (entry_width * entry) (flat (arrays w.ns w.d) entry up x [])) length_is
                ∙ ap (λ (x : Dtype). sets table (entry_width * entry) (flat x entry up (length f.name) [])) (sym w.typed);
            names_after = fl.names_after ∙ ap (λ (x : List ℕ). sets x h.byte more) hh.names_after ∙ ap (λ (x : ℕ). sets (sets names byte ws) x more) hh.next_name
                ∙ sym (sets_append names byte ws more) ∙ ap (λ (x : List ℕ). sets names byte (x ++ more)) (sym w.named)
                ∙ ap (λ (x : List ℕ). sets names byte (f.name ++ x)) (sym (arrays_names w.ns w.d []) ∙ ap (λ (x : Dtype). names_of x []) (sym w.typed));
          }

-- ---- what is asked of the fields of a descr
pub fields_due : (k : ℕ) (s : List ℕ) (at entry byte : ℕ) (table names : List ℕ) (n : Node) (e : ℕ) (d : Dtype) → Due k s at entry table byte names n e d → (l : Listed k s at e d)
    → DueFields (k - 1) s (at + 1) (entry + 1) table byte names l.ns e l.fs
fields_due k s at entry byte table names n e d h l =
    let m1 : entries_of d ≡ suc (entries_in l.fs) = ap entries_of l.recorded in
    let m2 : name_bytes_of d ≡ name_bytes_in l.fs = ap name_bytes_of l.recorded in
    record {
      row = l.row;
      is = l.is;
      narrow = subst (λ (x : Dtype). Narrow x) l.recorded h.narrow;
      room = omega (arith, h.room, m1);
      name_room = omega (arith, h.name_room, m2);
    }

-- ---- a descr as a whole, by what is at `at`
module _ (k : ℕ) (s : List ℕ) (at entry up m byte : ℕ) (table names : List ℕ) (n : Node) (e : ℕ) (d : Dtype) (h : Due k s at entry table byte names n e d) where
  module _ (hq : is_string (kind_of (byte_at s at)) ≡ true) where
    pub text_in : at < length s
    text_in = (text_due k s at e d n h.there h.is hq).inside

    -- the quote is read where the text has it
    pub text_whole : (r : Typed) → (r.ended ≡ (spelled (get_or s at 0) s (at + 1)).ended) × (answer r.read ≡ type_string (spelled (get_or s at 0) s (at + 1)).bytes)
        → (u : TypeStr) → u ≡ type_in r.read → (end : ℕ) → end ≡ end_of r.ended → (size : Bytes) → size ≡ as_bytes (capped (size_of (plain u)))
        → (table' : List ℕ) → table' ≡ put table entry (entry_of (plain u) up m) → Filled e entry up m byte d table names table' names (record { end = end; entry = entry + 1; byte = byte; size = size })
    text_whole r hr u hu end he size hs table' ht =
        let t = text_due k s at e d n h.there h.is hq in
        let b = get_d_any s at 0 256 t.inside in
        let ended : r.ended ≡ Parsed.Value e = hr.0 ∙ ap (λ (x : ℕ). (spelled x s (at + 1)).ended) b ∙ t.ended in
        let read : answer r.read ≡ gives t.t = hr.1 ∙ ap (λ (x : ℕ). type_string (spelled x s (at + 1)).bytes) b ∙ t.is in
        text_filled e entry up m byte d t.t u table names table' size end t.plainly (hu ∙ ap type_in (read_back r.read t.t read)) (he ∙ ap end_of ended) hs
        (ht ∙ put_room table entry (entry_of (plain u) up m) (omega (arith, h.room, some_entry_lem d)))

  module _ (hq : is_string (kind_of (byte_at s at)) ≡ false) where
    listed : Listed k s at e d
    listed = list_due k s at e d n h.there h.is hq

    pub fields_asked : (at < length s) × (0 < k) × DueFieldsFrom (k - 1) s (at + 1) (entry + 1) table byte names
    fields_asked = (listed.inside, listed.deep, (listed.ns, e, listed.fs, fields_due k s at entry byte table names n e d h listed))

    module _ (r : FieldsFilled) (mid names' : List ℕ) (hf : FillsFields (k - 1) s (at + 1) (entry + 1) entry byte table names mid names' r) where
      fields_filled : FilledFields e (entry + 1) entry byte listed.fs table names mid names' r
      fields_filled = hf listed.ns e listed.fs (fields_due k s at entry byte table names n e d h listed)

      record_room : entry_width * entry + entry_width ≤ length mid
      record_room =
          let long = ap length fields_filled.table_after ∙ length-sets table (entry_width * (entry + 1)) (flats listed.fs (entry + 1) entry []) in
          omega (arith, long, h.room, some_entry_lem d)

      pub record_whole : (table' : List ℕ)
          → table' ≡ put mid entry (bare 2 up r.count (r.entry - entry) r.size.0 m)
          → Filled e entry up m byte d table names table' names' (record { end = r.end; entry = r.entry; byte = r.byte; size = r.size })
      record_whole table' ht =
          let x = bare 2 up r.count (r.entry - entry) r.size.0 m in
          record_filled e entry up m byte listed.fs d table names mid names' table' r x listed.recorded fields_filled refl (ht ∙ put_room mid entry x record_room)

-- ---- no length changes
module _ {e entry up m byte : ℕ} {table names table' names' : List ℕ} where
  pub filled_long : {d : Dtype} {r : DescrFilled} → Filled e entry up m byte d table names table' names' r → (length table' ≡ length table) × (length names' ≡ length names)
  filled_long {d} w = (ap length w.table_after ∙ length-sets table (entry_width * entry) (flat d entry up m []), ap length w.names_after ∙ length-sets names byte (names_of d []))
