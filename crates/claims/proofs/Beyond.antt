-- Room beyond what was needed is unchanged (specs/Beyond.antt): what is written is followed by the rest of the room.
use Prim.Native.Nat.{ℕ, ◌*◌}
use mathlib.Core.Path.{◌≡◌, refl, sym, ap, ◌∙◌}
use mathlib.Core.List.{List}
use lib.ListN.{length, drop}
use Rattle.counts.specs.Outcome.{Outcome, gives, refused, each, afterwards}
use Rattle.utf8_scalar.specs.Encode.{encode}
use Rattle.dtype.specs.declared.Order.{Order}
use Rattle.dtype.specs.Record.{entry_width, name_bytes_of, Record, table, names}
use Rattle.dtype.specs.Entries.{entries_of}
use Rattle.dtype.specs.Shape as shape
use Rattle.dtype.proofs.Strides.{strides_length}
use Rattle.shape.specs.Count as strides
use Rattle.counts.specs.Lists.{at_front}
use Rattle.counts.proofs.Apart.{refused_gives}
use Rattle.record.specs.Rooms.{Lent, holding}
use Rattle.record.specs.Header as header
use Rattle.judge.specs.Judged.{reading}
use Rattle.judge.proofs.Top.{reading_keeps}
use Rattle.header.specs.declared.RecordInfo.{RecordInfo}
use Rattle.header.specs.declared.Header.{Header}
use Rattle.header.specs.Reads.{info_of, HeaderInfo, header_info, header_is, held_into}
use Rattle.counts.proofs.Owes.{front_rest, owes_rest}
use Rattle.claims.specs.Beyond.{SameRest, RestUnchanged}
use Rattle.read_back.proofs.Rooms.{table_whole, names_whole}

-- ---- a reader
pub holding_rest : (r : Record) (l : Lent) → SameRest (info_of r) l (holding r l)
holding_rest r l =
    record {
      table_rest = front_rest (entry_width * entries_of r.dtype) (table r.dtype) l.table (table_whole r);
      names_rest = front_rest (name_bytes_of r.dtype) (names r.dtype) l.names (names_whole r);
      shape_rest = front_rest (length r.shape) r.shape l.shape refl;
    }

rest_by : (r : Record) (l l' : Lent) (info : RecordInfo) → info ≡ info_of r → l' ≡ holding r l → SameRest info l l'
rest_by r l l' info p q = rw (p, q) (holding_rest r l)

pub header_rest : (h : Header) (l l' : Lent) (o : Outcome header.Header) → gives (header_is h) ≡ each header_info o → l' ≡ afterwards header.holding_header o l → SameRest h.info l l'
header_rest h l l' (gives k) a b =
    let same : header_is h ≡ header_info k = cc in
    rest_by k.says l l' h.info (ap (λ (t : HeaderInfo). t.info) same) b
header_rest h l l' (refused n) a b = refused_gives (sym a)

text_rest : (info : RecordInfo) (l l' : Lent) (o : Outcome Record) → gives info ≡ each info_of o → l' ≡ afterwards holding o l → SameRest info l l'
text_rest info l l' (gives r) a b = rest_by r l l' info (cc) b
text_rest info l l' (refused n) a b = refused_gives (sym a)

-- ---- one room
pub strides_rest : (o : Order) (s out : List ℕ) (n : ℕ) (c : Outcome ℕ) → c ≡ gives n → drop (length s) (afterwards (λ n. at_front (shape.strides o s)) c out) ≡ drop (length s) out
strides_rest o s out n (gives k) e = front_rest (length s) (shape.strides o s) out (sym (strides_length o s))
strides_rest o s out n (refused k) e = refused_gives e

pub rest_unchanged : RestUnchanged
rest_unchanged =
    record {
      read_held = λ longer file l l' h x. header_rest h l l' (held_into longer file l) (x.answered reading reading_keeps) (x.after reading reading_keeps);
      read_text = λ text l l' info x. text_rest info l l' (header.text_by reading text l) (x.answered reading reading_keeps) (x.after reading reading_keeps);
      write_header = λ t ns s o out w out' n h e. owes_rest _ out _ out' n h.writes e;
      list = λ v start t ns s o out x out' n h e. owes_rest _ out _ out' n h e;
      report = λ file out x out' n h e. owes_rest _ out _ out' n (h reading reading_keeps) e;
      put_read = λ said l out x out' n h e. owes_rest _ out _ out' n h e;
      read_bytes = λ run t out x out' n h e. owes_rest _ out _ out' n h e;
      read_points = λ run t out x out' n h e. owes_rest _ out _ out' n h e;
      write_bytes = λ t value out x out' n h e. owes_rest _ out _ out' n h e;
      write_points = λ t value out x out' n h e. owes_rest _ out _ out' n h e;
      element_bytes = λ file start t ns s o x p out y out' n h e. owes_rest _ out _ out' n h e;
      element_points = λ file start t ns s o x p out y out' n h e. owes_rest _ out _ out' n h e;
      print = λ t out x out' n h e. owes_rest _ out _ out' n h e;
      encode = λ value out x out' n h e. owes_rest _ out _ out' n h e;
      strides = λ s o out x out' n h e. ap (drop (length s)) h.out_after ∙ strides_rest o s out n (strides.strides_count o s (length out)) (sym h.answered ∙ e);
    }
