-- A reading's values and rooms determine the header: if they are those of h, then h has the record and the data start of the header that the file gave. The rooms hold that
-- record, which is valid.
use Prim.Native.Nat.{ℕ}
use mathlib.Core.Path.{◌≡◌, refl, sym, ap, subst, ◌∙◌}
use mathlib.Core.List.{List}
use lib.ListN.{get_or}
use Rattle.counts.proofs.Apart.{gives_apart}
use Rattle.dtype.specs.declared.Order.{Order}
use Rattle.dtype.specs.Record.{Record}
use Rattle.dtype.proofs.Record.{parts_equal}
use Rattle.record.specs.Rooms.{Lent, holding}
use Rattle.record.specs.Header.{Header}
use Rattle.check_record.specs.Valid.{Valid}
use Rattle.check_record.proofs.Accepts.{checked_valid}
use Rattle.header.specs.declared.RecordInfo.{RecordInfo}
use Rattle.header.specs.Reads.{HeaderInfo, info_of}
use Rattle.read_back.specs.Rooms.{table_stored, names_stored, shape_stored}
use Rattle.read_back.proofs.Rooms.{fronts_by}
use Rattle.npy_codes.specs.Codes.{order_number, order_for, header_values}
use Rattle.claims.proofs.Found.{order_back, WasRead, in_rooms_checked}

-- ---- the values in C determine all but the version
order_number_one : (o p : Order) → order_number o ≡ order_number p → o ≡ p
order_number_one o p e = gives_apart (sym (order_back o) ∙ ap order_for e ∙ order_back p)

info_eq : {o o' : Order} {r r' e e' n n' : ℕ} → o ≡ o' → r ≡ r' → e ≡ e' → n ≡ n'
    → ◌≡◌ {A = RecordInfo} (record { order = o; rank = r; entries = e; names = n }) (record { order = o'; rank = r'; entries = e'; names = n' })
info_eq a b c d = cc

pub values_one : (i k : HeaderInfo) → header_values i ≡ header_values k → (i.info ≡ k.info) × (i.data_start ≡ k.data_start)
values_one i k e = (
  info_eq (order_number_one i.info.order k.info.order (ap (λ (l : List ℕ). get_or l 1 0) e)) (ap (λ (l : List ℕ). get_or l 2 0) e) (ap (λ (l : List ℕ). get_or l 3 0) e)
      (ap (λ (l : List ℕ). get_or l 4 0) e),
  ap (λ (l : List ℕ). get_or l 5 0) e,
)

-- ---- lengths and rooms determine the record
says_one : (r q : Record) (l l' : Lent) → info_of r ≡ info_of q → l' ≡ holding r l → l' ≡ holding q l → r ≡ q
says_one r q l l' e a b =
    let f = fronts_by r l l' (info_of r) refl a in
    let g = fronts_by q l l' (info_of r) e b in
    parts_equal r q
    (record {
      tables = sym f.table_is ∙ g.table_is;
      all_names = sym f.names_are ∙ g.names_are;
      shapes = sym f.shape_is ∙ g.shape_is;
      orders = sym f.order_is ∙ g.order_is;
    })

module _ (file : List ℕ) (l l' : Lent) (i : HeaderInfo) (w : WasRead file l l' i) (h : Header) (info_is : i.info ≡ info_of h.says) (held : l' ≡ holding h.says l) where
  pub says_is : w.header_found.says ≡ h.says
  says_is = says_one w.header_found.says h.says l l' (sym (ap (λ (t : HeaderInfo). t.info) w.values) ∙ info_is) w.held held

  -- the fronts of the rooms are the record of h, which is valid
  abbrev fronts_valid : Record → RecordInfo → Type 0
  fronts_valid r i = Valid (table_stored i l') (names_stored i l') (shape_stored i l') i.order r

  pub valid_own : fronts_valid h.says (info_of h.says)
  valid_own =
      subst (λ (t : RecordInfo). fronts_valid h.says t) info_is
      (subst (λ (r : Record). fronts_valid r i.info) says_is (checked_valid _ _ _ _ _ (in_rooms_checked file l l' i w)))
