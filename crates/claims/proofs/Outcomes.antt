-- One outcome satisfies each predicate (specs/Outcomes.antt), as it does each contract: by the theorems of the crates below, of the readers with the literal's own reading.
use Prim.Native.Nat.{ℕ}
use mathlib.Core.Path.{sym, ap, ◌∙◌}
use mathlib.Core.Bool.{Bool, false}
use mathlib.Core.List.{List}
use lib.ListN.{length}
use Rattle.counts.specs.Lists.{at_front}
use Rattle.judge.specs.Judged.{reading}
use Rattle.judge.proofs.Top.{reading_keeps}
use Rattle.utf8_scalar.proofs.Outcomes.{encode_one}
use Rattle.type_read.proofs.Outcomes.{parse_one}
use Rattle.type_print.proofs.Outcomes.{print_one}
use Rattle.shape.proofs.Outcomes.{count_one, strides_one}
use Rattle.check_record.proofs.Outcomes.{check_one}
use Rattle.header.proofs.Outcomes.{read_held_one, read_text_one}
use Rattle.header_feed.proofs.Outcomes.{start_one, feed_one, end_one}
use Rattle.write.proofs.Outcomes.{write_header_one}
use Rattle.list_record.proofs.Outcomes.{list_one}
use Rattle.list_file.proofs.Outcomes.{report_one, report_whole_one, put_read_one}
use Rattle.place_item.proofs.Outcomes.{item_number_one}
use Rattle.place.proofs.Outcomes.{place_one}
use Rattle.string_element.proofs.Outcomes as string_element
use Rattle.element_text.proofs.Outcomes.{put_one}
use Rattle.get_file.proofs.Outcomes.{find_one, numbers_one}
use Rattle.value.proofs.Outcomes as value
use Rattle.element.proofs.Outcomes as element
use Rattle.npy.proofs.Outcomes as npy
use Rattle.record.specs.Rooms.{Lent}
use Rattle.claims.specs.Functions.{ReadHeld}
use Rattle.claims.specs.InC.{NpyReadHeld}
use Rattle.claims.specs.Outcomes.{Beside, BesideBoth, OneOutcomeEach, OneOutcomeInC}
use Rattle.claims.proofs.Readings.{report_same, text_moved, find_moved}

held_one : (longer : Bool) (file : List ℕ) (l : Lent) → Beside (ReadHeld longer file l)
held_one longer file l x y p q =
    read_held_one longer file l x y (record { answered = p.answered reading reading_keeps; after = p.after reading reading_keeps })
    (record { answered = q.answered reading reading_keeps; after = q.after reading reading_keeps })

npy_held_one : (longer : Bool) (file : List ℕ) (l : Lent) (said : List ℕ) → BesideBoth (NpyReadHeld longer file l said)
npy_held_one longer file l said x y p q =
    npy.npy_read_held_one longer file l said x y (record { answered = p.answered reading reading_keeps; rooms = p.after reading reading_keeps })
    (record { answered = q.answered reading reading_keeps; rooms = q.after reading reading_keeps })

pub one_outcome_each : OneOutcomeEach
one_outcome_each =
    record {
      read = held_one false;
      read_held = held_one;
      read_text = λ text l x y p q.
          read_text_one text l x y (record { answered = p.answered reading reading_keeps; after = p.after reading reading_keeps })
          (record { answered = q.answered reading reading_keeps; after = q.after reading reading_keeps });
      feed_start = start_one;
      feed = λ f part text l x y p q. feed_one f part text l x y (p reading reading_keeps) (q reading reading_keeps);
      feed_end = end_one;
      report = λ file out x y p q.
          let same = sym (report_same reading reading_keeps file) in
          report_one file out x y (text_moved x.0 same (p reading reading_keeps)) (text_moved y.0 same (q reading reading_keeps));
      report_whole = λ file out x y p q.
          let same = sym (report_same reading reading_keeps file) in
          report_whole_one file out x y
          (record { answered = p.answered reading reading_keeps ∙ ap length same; after = p.after reading reading_keeps ∙ ap (λ (text : List ℕ). at_front text out) same })
          (record { answered = q.answered reading reading_keeps ∙ ap length same; after = q.after reading reading_keeps ∙ ap (λ (text : List ℕ). at_front text out) same });
      put_read = λ said l out. put_read_one said l out;
      find = λ longer held file x p y z h k.
          find_one longer held file x p y z (find_moved longer held file x p y (h reading reading_keeps)) (find_moved longer held file x p z (k reading reading_keeps));
      numbers_listed = λ text out. numbers_one text out;
      put_element = λ run k out. put_one k run out;
      check = λ t ns s o x y p q. check_one t ns s o x y p.answered q.answered;
      write_header = λ t ns s o out x y p q. write_header_one t ns s o out x y p.writes q.writes;
      list = λ v start t ns s o out. list_one v start t ns s o out;
      count = λ s o. count_one o s;
      strides = λ s o out. strides_one o s out;
      item_number = λ s o x. item_number_one o s x;
      place = λ file start t ns s o x p. place_one file start t ns s o x p;
      element_bytes = λ file start t ns s o x p out. element.read_bytes_one file start t ns s o x p out;
      element_points = λ file start t ns s o x p out. element.read_points_one file start t ns s o x p out;
      element_value = λ file start t ns s o x p y z h k. element.read_value_one file start t ns s o x p y z h.answered k.answered;
      read_value = λ run k y z h j. value.read_one run k y z h.answered j.answered;
      read_bytes = λ run k out. string_element.read_bytes_one k run out;
      read_points = λ run k out. string_element.read_points_one k run out;
      write_bytes = λ k value out. string_element.write_bytes_one k value out;
      write_points = λ k value out. string_element.write_points_one k value out;
      type_read = λ text. parse_one text;
      type_print = λ k out. print_one k out;
      encode = λ value out. encode_one value out;
    }

pub one_outcome_in_c : OneOutcomeInC
one_outcome_in_c =
    record {
      npy_read = npy_held_one false;
      npy_read_held = npy_held_one;
      npy_read_text = λ text l said x y p q.
          npy.npy_read_text_one text l said x y (record { answered = p.answered reading reading_keeps; rooms = p.after reading reading_keeps })
          (record { answered = q.answered reading reading_keeps; rooms = q.after reading reading_keeps });
      npy_feed = λ ns part text l said used x y p q. npy.npy_feed_one ns part text l said used x y (p.feeds reading reading_keeps) (q.feeds reading reading_keeps);
      npy_feed_end = npy.npy_feed_end_one;
      npy_check = λ t ns s order said x y p q. npy.call_one _ _ said x y p.answered q.answered;
      npy_write_header = λ t ns s order out count x y p q. npy.npy_write_header_one t ns s order out count x y p.writes q.writes;
      npy_list = λ version start t ns s order out count. npy.npy_list_one version start t ns s order out count;
      npy_count = λ s order count. npy.call_one _ _ count;
      npy_strides = λ s order out count. npy.npy_strides_one s order out count;
      npy_item_number = λ s order x item. npy.call_one _ _ item;
      npy_place = λ file start t ns s order x p run. npy.call_one _ _ run;
      npy_element_bytes = λ file start t ns s order x p out count. npy.puts_one _ out count;
      npy_element_points = λ file start t ns s order x p out count. npy.puts_one _ out count;
      npy_element_value = λ file start t ns s order x p said y z h k. npy.call_one _ _ said y z h.answered k.answered;
      npy_read_value = λ run order letter size units said y z h k. npy.call_one _ _ said y z h.answered k.answered;
      npy_read_bytes = λ run order letter size units out count. npy.puts_one _ out count;
      npy_read_points = λ run order letter size units out count. npy.puts_one _ out count;
      npy_write_bytes = λ order letter size units value out count. npy.puts_one _ out count;
      npy_write_points = λ order letter size units value out count. npy.puts_one _ out count;
      npy_type_read = λ text said. npy.call_one _ _ said;
      npy_type_print = λ order letter size units out count. npy.npy_type_print_one order letter size units out count;
    }
