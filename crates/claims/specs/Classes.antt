-- Document 02, "Wish 8. Classify bytes by table.": what is claimed of the table. What the reader returns is claimed in the other files; no definition there has a class.
use Rattle.std.specs.Prelude.{ℕ, ◌<◌, ◌≡◌}
use Rattle.literal_classes.specs.Classes.{class_of}
use Rattle.literal_classes.specs.Table.{class_entry}

-- "The table must equal the comparisons at every byte, shown once over the table as a whole"
abbrev pub TableIsComparisons : Type 0
TableIsComparisons = (b : ℕ) → b < 256 → class_entry b ≡ class_of b
