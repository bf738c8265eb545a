-- Demand 1 (specs/Refusals.antt): in each contract one outcome determines both the result and the memory afterwards, and for a refusal that is the memory before.
use Prim.Native.Nat.{ℕ}
use mathlib.Core.Path.{◌≡◌, refl, sym, ◌∙◌}
use mathlib.Core.List.{List}
use lib.ListN.{length}
use Rattle.counts.specs.Outcome.{Outcome, gives, refused, afterwards}
use Rattle.counts.specs.Lists.{at_front}
use Rattle.counts.proofs.Owes.{afterwards_refused, owes_unchanged}
use Rattle.counts.proofs.Apart.{refused_gives}
use Rattle.dtype.specs.Shape as shape
use Rattle.shape.specs.Count as strides
use Rattle.record.specs.Rooms.{holding}
use Rattle.record.specs.Header as record_of_file
use Rattle.judge.specs.Judged.{reading}
use Rattle.judge.proofs.Top.{reading_keeps}
use Rattle.header.specs.Reads as header
use Rattle.claims.specs.Refusals.{Unchanged}

-- strides
pub strides_left : (new old : List ℕ) (k : ℕ) (o : Outcome ℕ) → o ≡ refused k → afterwards (λ n. at_front new) o old ≡ old
strides_left new old k (gives n) e = refused_gives (sym e)
strides_left new old k (refused n) e = refl

pub unchanged : Unchanged
unchanged =
    record {
      read_held = λ longer file l x l' k h e.
          h.after reading reading_keeps
          ∙ afterwards_refused record_of_file.holding_header header.header_info l (header.held_into longer file l) k (sym (h.answered reading reading_keeps) ∙ e);
      read_text = λ text l x l' k h e.
          h.after reading reading_keeps
          ∙ afterwards_refused holding header.info_of l (record_of_file.text_by reading text l) k (sym (h.answered reading reading_keeps) ∙ e);
      write_header = λ t ns s o out w out' k h e. owes_unchanged _ out _ out' k h.writes e;
      list = λ v start t ns s o out x out' k h e. owes_unchanged _ out _ out' k h e;
      report = λ file out x out' k h e. owes_unchanged _ out _ out' k (h reading reading_keeps) e;
      numbers_listed = λ text out x out' k h e. owes_unchanged _ out _ out' k h e;
      put_read = λ said l out x out' k h e. owes_unchanged _ out _ out' k h e;
      put_element = λ run t out x out' k h e. owes_unchanged _ out _ out' k h e;
      read_bytes = λ run t out x out' k h e. owes_unchanged _ out _ out' k h e;
      read_points = λ run t out x out' k h e. owes_unchanged _ out _ out' k h e;
      write_bytes = λ t value out x out' k h e. owes_unchanged _ out _ out' k h e;
      write_points = λ t value out x out' k h e. owes_unchanged _ out _ out' k h e;
      element_bytes = λ file start t ns s o x p out y out' k h e. owes_unchanged _ out _ out' k h e;
      element_points = λ file start t ns s o x p out y out' k h e. owes_unchanged _ out _ out' k h e;
      print = λ t out x out' k h e. owes_unchanged _ out _ out' k h e;
      strides = λ s o out x out' k h e. h.out_after ∙ strides_left (shape.strides o s) out k (strides.strides_count o s (length out)) (sym h.answered ∙ e);
      encode = λ value out x out' k h e. owes_unchanged _ out _ out' k h e;
    }
