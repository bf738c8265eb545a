-- Document 01, "What the collector buys": "It holds the file's first 65,536 bytes and 16,384 name bytes; a longer file whose header ends past those gets 23". So the
-- program reads one byte more than it holds, to see whether the file is longer, and its room for the text is enough for every file: it never prints 28. Both are proved in
-- proofs/Enough.antt.
use Rattle.std.specs.Prelude.{ℕ, ◌≡◌, List, length}
use Rattle.counts.specs.Lists.{at_front}
use Rattle.counts.specs.declared.Bytes.{Bytes}
use Rattle.list_file.specs.Report.{report_of}

-- what the function with that room returns, and what the room then holds: the whole report, with no refusal
pub record WritesReport (file room : List ℕ) (n : Bytes) (room' : List ℕ) : Type 0 where
  pub answered : n.0 ≡ length (report_of file)
  pub after : room' ≡ at_front (report_of file) room
