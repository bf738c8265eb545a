-- The table of classes is the comparisons at every byte: the computed test of crate literal_classes.
use Rattle.literal_classes.proofs.Table.{table_right}
use Rattle.claims.specs.Classes.{TableIsComparisons}

pub table_is_comparisons : TableIsComparisons
table_is_comparisons = table_right
