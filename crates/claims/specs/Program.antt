-- The listing program. Document 01, "What the collector buys": "It holds the file's first 65,536 bytes ..; a longer file whose header ends past those gets 23". It reads one byte
-- more, lends `list_file::report_whole` 131,072 bytes for the text, and prints what is written there. So many bytes of a file give the text of the whole file, every text
-- fits the room, and so nothing is refused for room (28), by any reading of texts that keeps the grammar's promise.
use Rattle.std.specs.Prelude.{ℕ, suc, ◌≤◌, ◌≡◌, List, length, take}
use Rattle.counts.specs.declared.Bytes.{Bytes}
use Rattle.list_file.specs.Report.{held_most}
use Rattle.claims.specs.Functions.{ByGrammar, report_by, ReportWhole}

-- the claim, of every call with the first 65,537 bytes of a file
abbrev pub ProgramPrints : Type 0
ProgramPrints =
    (file out out' : List ℕ) (n : Bytes) → ReportWhole (take (suc held_most) file) out n out'
    → ByGrammar (λ reading. (take n.0 out' ≡ report_by reading file) × (n.0 ≡ length (report_by reading file)) × (n.0 ≤ 131072))
