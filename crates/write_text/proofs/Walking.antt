-- The walk that prints: a plain type, a record, the type under array levels, and the loop over a record's fields, each from what the functions that it calls have
-- written.
use Prim.Native.Nat.{ℕ, ◌+◌, ◌-◌, ◌<◌, ◌≤◌}
use native.Mathlib.Omega.{arith}
use mathlib.Core.Path.{◌≡◌, refl, sym, ap, ◌∙◌, subst}
use mathlib.Core.Bool.{not}
use mathlib.Core.List.{List, [], ◌∷◌}
use borrow.Author.Tests.{not-false}
use lib.ListN.{length, take, drop, length-drop, length-append}
use lib.Seq.{sets, drop-drop, take-append_seam, drop-append_seam}
use Rattle.counts.specs.Outcome.{Outcome, gives}
use Rattle.counts.specs.Number.{capped}
use Rattle.emit.specs.Emits.{Emits}
use Rattle.emit.proofs.Pieces.{emits_then, emits_same, emits_length}
use Rattle.literal_grammar.specs.Print.{Layout, quote, print, print_row}
use Rattle.type_str.specs.declared.TypeStr.{TypeStr}
use Rattle.type_str.specs.Text.{is_type}
use Rattle.dtype.specs.declared.Entry.{Entry}
use Rattle.dtype.specs.Dtype.{Dtype, Fields, plain, array, record_of, end_of_fields, field_then}
use Rattle.dtype.specs.Entries.{field_count, entries_of, entries_in, some_entry_in, plain_only}
use Rattle.dtype.specs.Record.{names_of, names_in, name_bytes_of, name_bytes_in}
use Rattle.dtype.specs.EntryOf.{entry_of}
use Rattle.dtype.specs.Agrees.{entry_at}
use Rattle.dtype.proofs.Flat.{some_entry_lem, names_drop, names_length}
use Rattle.dtype.proofs.Seen.{or_left, or_right}
use Rattle.record.specs.Layout.{levels_of, field_layout, descr_layout, field_row}
use Rattle.check_table.specs.Reading.{untyped}
use Rattle.table_entry.specs.EntryType.{type_of}
use Rattle.table_entry.proofs.Types.{type_of_written}
use Rattle.write_text.specs.declared.inner.WalkEnd.{WalkEnd}
use Rattle.write_depth.specs.Listed.{InTableAt}
use Rattle.write_depth.proofs.UnderLevels.{innermost_of, Innermost}
use Rattle.write_depth.proofs.Listing.{listed_entry, listed_room, listed_fields, listed_first, listed_later, innermost_descr, under_record}
use Rattle.write_pieces.specs.Pieces.{type_piece, levels_at, sub_text}
use Rattle.write_text.specs.Walk.{ListedNamed, ListedNamedIn, Walked}
use Rattle.write_text.proofs.Listing.{levels_listed, innermost_names, innermost_bytes, innermost_typed, innermost_entries}

-- ---- `put_descr`
module _ (t ns : List ℕ) (e b : ℕ) where
  in_table_room : (d : Dtype) → ListedNamed t ns e b d → e < length t
  in_table_room d s = omega (arith, listed_room t e d s.listed, some_entry_lem d)

  module _ (x : Entry) (q : x ≡ entry_at t e) where
    entry_is : (d : Dtype) (s : ListedNamed t ns e b d) → x ≡ entry_of d s.listed.up s.listed.name
    entry_is d s = q ∙ listed_entry t e d s.listed

    kind_is : (d : Dtype) (s : ListedNamed t ns e b d) → x.kind ≡ (entry_of d s.listed.up s.listed.name).kind
    kind_is d s = ap (λ (a : Entry). a.kind) (entry_is d s)

    type_is : (ty : TypeStr) → ListedNamed t ns e b (plain ty) → type_of x ≡ gives ty
    type_is ty s =
        let y = entry_is (plain ty) s in
        type_of_written x ty
        (record {
          order = ap (λ (a : Entry). a.order) y;
          letter = ap (λ (a : Entry). a.letter) y;
          number = ap (λ (a : Entry). a.number) y;
          units = ap (λ (a : Entry). a.units) y;
        })
        ∙ simp (not-false (is_type ty) s.typed)

    pub plain_walked : x.kind ≡ 0 → (old : List ℕ) (at : ℕ) (out : List ℕ) (p : ℕ)
        → Emits (type_piece (type_of x)) old at out p → (d : Dtype) → ListedNamed t ns e b d
        → Walked (print (descr_layout d)) (entries_of d) (name_bytes_of d) old e b at out (record { entry = e + 1; byte = b; at = p })
    plain_walked k old at out p h (plain ty) s = record { emits = subst (λ (o : Outcome TypeStr). Emits (type_piece o) old at out p) (type_is ty s) h; next = refl; next_name = omega arith }
    plain_walked k old at out p h (array n d) s = absurd (omega (arith, kind_is (array n d) s))
    plain_walked k old at out p h (record_of fs) s = absurd (omega (arith, kind_is (record_of fs) s))

    module _ (not_plain : x.kind ≡ 0 → ⊥) (not_array : x.kind ≡ 1 → ⊥) where
      fields_stand : (fs : Fields) → ListedNamed t ns e b (record_of fs) → ListedNamedIn t ns (e + 1) b fs
      fields_stand fs s = record { listed = listed_fields t e fs s.listed; later = s.later; named = s.named; inside = s.inside; typed = s.typed }

      count_is : (fs : Fields) → ListedNamed t ns e b (record_of fs) → x.number ≡ field_count fs
      count_is fs s = ap (λ (a : Entry). a.number) (entry_is (record_of fs) s)

      fields_asks : (d : Dtype) × ListedNamed t ns e b d → (fs : Fields) × (x.number ≡ field_count fs) × ListedNamedIn t ns (e + 1) b fs
      fields_asks (plain ty, s) = absurd (not_plain (kind_is (plain ty) s))
      fields_asks (array n d, s) = absurd (not_array (kind_is (array n d) s))
      fields_asks (record_of fs, s) = (fs, count_is fs s, fields_stand fs s)

      pub record_walked : (old : List ℕ) (at : ℕ) (m₁ : List ℕ) (p₁ : ℕ) (m₂ : List ℕ) (r : WalkEnd) (out : List ℕ) (p : ℕ) → Emits (λ z. 91 ∷ z) old at m₁ p₁
          → ((fs : Fields) → x.number ≡ field_count fs → ListedNamedIn t ns (e + 1) b fs → Walked (print_row (field_row fs)) (entries_in fs) (name_bytes_in fs) m₁ (e + 1) b p₁ m₂ r)
          → Emits (λ z. 93 ∷ z) m₂ r.at out p → (d : Dtype) → ListedNamed t ns e b d
          → Walked (print (descr_layout d)) (entries_of d) (name_bytes_of d) old e b at out (record { entry = r.entry; byte = r.byte; at = p })
      record_walked old at m₁ p₁ m₂ r out p a f c (plain ty) s = absurd (not_plain (kind_is (plain ty) s))
      record_walked old at m₁ p₁ m₂ r out p a f c (array n d) s = absurd (not_array (kind_is (array n d) s))
      record_walked old at m₁ p₁ m₂ r out p a f c (record_of fs) s =
          let w = f fs (count_is fs s) (fields_stand fs s) in
          let row = print_row (field_row fs) in
          record {
            emits = emits_then (λ z. 91 ∷ row z) (λ z. 93 ∷ z) old at m₂ r.at out p (emits_then (λ z. 91 ∷ z) row old at m₁ p₁ m₂ r.at a w.emits) c;
            next = omega (arith, w.next);
            next_name = w.next_name;
          }

-- ---- `put_descr` where the type is under array levels: its entry is r
module _ (t ns : List ℕ) (e b r : ℕ) (under : (d : Dtype) → InTableAt t e d → Innermost t e d r) where
  under_there : (d : Dtype) → ListedNamed t ns e b d → ListedNamed t ns r b (innermost_of d)
  under_there d s =
      record {
        listed = (under d s.listed).listed;
        later = s.later;
        named = s.named ∙ sym (innermost_names d s.later);
        inside = s.inside;
        typed = innermost_typed d ∙ s.typed;
      }

  pub under_room : (d : Dtype) → ListedNamed t ns e b d → (e ≤ r) × (r < length t)
  under_room d s = (omega (arith, (under d s.listed).passed), in_table_room t ns r b (innermost_of d) (under_there d s))

  pub under_walked : (old : List ℕ) (at : ℕ) (out : List ℕ) (w : WalkEnd)
      → ((d : Dtype) → ListedNamed t ns r b d → Walked (print (descr_layout d)) (entries_of d) (name_bytes_of d) old r b at out w)
      → (d : Dtype) → ListedNamed t ns e b d → Walked (print (descr_layout d)) (entries_of d) (name_bytes_of d) old e b at out w
  under_walked old at out w h d s =
      let v = h (innermost_of d) (under_there d s) in
      record {
        emits = subst (λ (l : Layout). Emits (print l) old at out w.at) (innermost_descr d) v.emits;
        next = omega (arith, v.next, (under d s.listed).passed, innermost_entries d);
        next_name = omega (arith, v.next_name, innermost_bytes d);
      }

  module _ (x : Entry) (q : x ≡ entry_at t r) (not_plain : x.kind ≡ 0 → ⊥) where
    pub under_asks : (d : Dtype) × ListedNamed t ns e b d → (fs : Fields) × (x.number ≡ field_count fs) × ListedNamedIn t ns (r + 1) b fs
    under_asks (d, s) = fields_asks t ns r b x q not_plain (under_record t e r under x q d s.listed) (innermost_of d, under_there d s)

-- ---- `put_fields`
-- a field's text, in the pieces that the code writes
field_text : (name : List ℕ) (l : Layout) (s z : List ℕ)
    → 40 ∷ print (quote name) (44 ∷ 32 ∷ print l (sub_text s (41 ∷ 44 ∷ 32 ∷ z))) ≡ print (field_layout name l s) (44 ∷ 32 ∷ z)
field_text name l [] z = refl
field_text name l (n ∷ s) z = refl

-- what is left of the fields, and where they are
pub record Going (t ns : List ℕ) (e b : ℕ) (old : List ℕ) (at : ℕ) (out : List ℕ) (c start p i : ℕ) (fs : Fields) : Type 0 where
  pub still : Fields
  pub there : ListedNamedIn t ns c start still
  pub counted : i + field_count still ≡ field_count fs
  pub further : e ≤ c
  pub entries : c + entries_in still ≡ e + entries_in fs
  pub bytes : start + name_bytes_in still ≡ b + name_bytes_in fs
  pub same : length out ≡ length old
  pub stored : (z : List ℕ) → sets out p (print_row (field_row still) z) ≡ sets old at (print_row (field_row fs) z)
  pub after : (z : List ℕ) → capped (p + length (print_row (field_row still) z)) ≡ capped (at + length (print_row (field_row fs) z))

-- the next field: its name's place, and its dtype after that
pub record Next (t ns : List ℕ) (c start : ℕ) (x : Entry) (name : List ℕ) (d : Dtype) : Type 0 where
  pub fits : start + x.name ≤ length ns
  pub name_is : take (start + x.name - start) (drop start ns) ≡ name
  pub inner : ListedNamed t ns c (start + x.name) d

module _ (t ns : List ℕ) (c start : ℕ) (x : Entry) (q : x ≡ entry_at t c) where
  name_length : (name : List ℕ) (d : Dtype) (fs : Fields) → ListedNamedIn t ns c start (field_then name d fs) → x.name ≡ length name
  name_length name d fs s = ap (λ (a : Entry). a.name) (q ∙ listed_entry t c d (listed_first t c name d fs s.listed))

  next_of : (name : List ℕ) (d : Dtype) (fs : Fields) → ListedNamedIn t ns c start (field_then name d fs) → Next t ns c start x name d
  next_of name d fs s =
      let l = listed_first t c name d fs s.listed in
      let y = names_of d (names_in fs s.later) in
      let m = name_length name d fs s in
      let z : start + x.name - start ≡ length name = omega arith in
      record {
        fits = omega (arith, s.inside, length-drop start ns, ap length s.named, length-append name y);
        name_is = rw (z, s.named) (take-append_seam name y);
        inner =
            record {
              listed = l;
              later = names_in fs s.later;
              named = rw m (sym (drop-drop (length name) start ns) ∙ ap (λ (u : List ℕ). drop (length name) u) s.named ∙ drop-append_seam name y);
              inside = omega (arith, s.inside, length-drop start ns, ap length s.named, length-append name y);
              typed = or_left (untyped d) (some_entry_in (plain_only (λ ty. not (is_type ty))) fs) s.typed;
            };
      }

  later_there : (name : List ℕ) (d : Dtype) (fs : Fields) → ListedNamedIn t ns c start (field_then name d fs) → (r : WalkEnd) → r.entry ≡ c + entries_of d
      → r.byte ≡ start + x.name + name_bytes_of d → ListedNamedIn t ns r.entry r.byte fs
  unfolding next_of
  later_there name d fs s r u v =
      let i = (next_of name d fs s).inner in
      let y = names_in fs s.later in
      rw (u, v)
      (record {
        listed = listed_later t c name d fs s.listed;
        later = s.later;
        named = sym (drop-drop (name_bytes_of d) (start + x.name) ns) ∙ ap (λ (w : List ℕ). drop (name_bytes_of d) w) i.named ∙ names_drop d y;
        inside = omega (arith, i.inside, length-drop (start + x.name) ns, ap length i.named, names_length d y);
        typed = or_right (untyped d) (some_entry_in (plain_only (λ ty. not (is_type ty))) fs) s.typed;
      })

  module _ (e b : ℕ) (old : List ℕ) (at : ℕ) (out : List ℕ) (p i : ℕ) (fs : Fields) (g : Going t ns e b old at out c start p i fs) (more : i < field_count fs) where
    -- what the calls of a turn ask
    pub going_next : (name : List ℕ) × (d : Dtype) × Next t ns c start x name d
    going_next = go g.still g.counted g.there
      where
        go : (gs : Fields) → i + field_count gs ≡ field_count fs → ListedNamedIn t ns c start gs → (name : List ℕ) × (d : Dtype) × Next t ns c start x name d
        go end_of_fields n s = absurd (omega arith)
        go (field_then name d gs) n s = (name, d, next_of name d gs s)

    module _ (m₁ : List ℕ) (p₁ : ℕ) (m₂ : List ℕ) (r : WalkEnd) (out' : List ℕ) (p' : ℕ)
        (opened : Emits (λ z. 40 ∷ print (quote (take (start + x.name - start) (drop start ns))) (44 ∷ 32 ∷ z)) out p m₁ p₁)
        (walked : (d : Dtype) → ListedNamed t ns c (start + x.name) d → Walked (print (descr_layout d)) (entries_of d) (name_bytes_of d) m₁ c (start + x.name) p₁ m₂ r)
        (closed : Emits (λ z. sub_text (levels_at t c) (41 ∷ 44 ∷ 32 ∷ z)) m₂ r.at out' p') where
      field_emits : (name : List ℕ) (d : Dtype) → Next t ns c start x name d → Emits (λ z. print (field_layout name (descr_layout d) (levels_of d)) (44 ∷ 32 ∷ z)) out p out' p'
      field_emits name d n =
          let head : List ℕ → List ℕ → List ℕ = λ w z. 40 ∷ print (quote w) (44 ∷ 32 ∷ z) in
          let open_is : Emits (head name) out p m₁ p₁ = subst (λ (w : List ℕ). Emits (head w) out p m₁ p₁) n.name_is opened in
          let inner = print (descr_layout d) in
          emits_same (λ z. head name (inner (sub_text (levels_of d) (41 ∷ 44 ∷ 32 ∷ z)))) (λ z. print (field_layout name (descr_layout d) (levels_of d)) (44 ∷ 32 ∷ z)) out p out' p'
          (λ z. field_text name (descr_layout d) (levels_of d) z)
          (emits_then (λ z. head name (inner z)) (λ z. sub_text (levels_of d) (41 ∷ 44 ∷ 32 ∷ z)) out p m₂ r.at out' p'
          (emits_then (head name) inner out p m₁ p₁ m₂ r.at open_is (walked d n.inner).emits)
          (subst (λ (l : List ℕ). Emits (λ z. sub_text l (41 ∷ 44 ∷ 32 ∷ z)) m₂ r.at out' p') (levels_listed (length t) t c d n.inner.listed (omega arith)) closed))

      pub going_more : Going t ns e b old at out' r.entry r.byte p' (i + 1) fs
      going_more = go g.still g.counted g.there g.entries g.bytes g.stored g.after
        where
          go : (gs : Fields) → i + field_count gs ≡ field_count fs → ListedNamedIn t ns c start gs → c + entries_in gs ≡ e + entries_in fs → start + name_bytes_in gs ≡ b + name_bytes_in fs
              → ((z : List ℕ) → sets out p (print_row (field_row gs) z) ≡ sets old at (print_row (field_row fs) z))
              → ((z : List ℕ) → capped (p + length (print_row (field_row gs) z)) ≡ capped (at + length (print_row (field_row fs) z)))
              → Going t ns e b old at out' r.entry r.byte p' (i + 1) fs
          go end_of_fields n s u v k l = absurd (omega arith)
          go (field_then name d gs) n s u v k l =
              let y = next_of name d gs s in
              let w = walked d y.inner in
              let f = field_emits name d y in
              let m = name_length name d gs s in
              record {
                still = gs;
                there = later_there name d gs s r w.next w.next_name;
                counted = omega arith;
                further = omega (arith, w.next, g.further);
                entries = omega (arith, w.next);
                bytes = omega (arith, w.next_name);
                same = emits_length _ out p out' p' f ∙ g.same;
                stored = λ z. f.stored (print_row (field_row gs) z) ∙ k z;
                after = λ z. f.after (print_row (field_row gs) z) ∙ l z;
              }

pub going_end : (t ns : List ℕ) (e b : ℕ) (old : List ℕ) (at : ℕ) (out : List ℕ) (c start p i : ℕ) (fs : Fields) → Going t ns e b old at out c start p i fs → field_count fs ≤ i
    → Walked (print_row (field_row fs)) (entries_in fs) (name_bytes_in fs) old e b at out (record { entry = c; byte = start; at = p })
going_end t ns e b old at out c start p i fs g none = go g.still g.counted g.entries g.bytes g.stored g.after
  where
    go : (gs : Fields) → i + field_count gs ≡ field_count fs → c + entries_in gs ≡ e + entries_in fs → start + name_bytes_in gs ≡ b + name_bytes_in fs
        → ((z : List ℕ) → sets out p (print_row (field_row gs) z) ≡ sets old at (print_row (field_row fs) z))
        → ((z : List ℕ) → capped (p + length (print_row (field_row gs) z)) ≡ capped (at + length (print_row (field_row fs) z)))
        → Walked (print_row (field_row fs)) (entries_in fs) (name_bytes_in fs) old e b at out (record { entry = c; byte = start; at = p })
    go end_of_fields n u v k l = record { emits = record { stored = k; after = l }; next = omega arith; next_name = omega arith }
    go (field_then name d gs) n u v k l = absurd (omega arith)
