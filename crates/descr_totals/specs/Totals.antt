-- What the refusals that come after the whole descr need of it. Document 01: 13 "over 32 dimensions in a shape or sub-shape", 20 "over 512 entries or
-- 65,536 bytes of field names", 21 "no `O`, and some entry's size over 2^64-1"; and "An array has n times its inner size; a record has the sum." Totals
-- are capped at the first number that is refused; that they decide what crate dtype's Limits.antt asks is proofs/Limits.antt.
use Rattle.std.specs.Prelude.{ℕ, ◌+◌, min, false, ◌||◌, cond, ltb, length}
use Rattle.counts.specs.Counts.{bytes_over, as_bytes, held_bytes}
use Rattle.type_letters.specs.Letters.{is_object}
use Rattle.dtype.specs.Dtype.{Dtype, Fields, size_of, sizes_of}
use Rattle.dtype.specs.Entries.{entries_of, entries_in, some_entry_in, levels, plain_only, has_object}
use Rattle.dtype.specs.Record.{name_bytes_of, name_bytes_in}
use Rattle.dtype.specs.Limits.{over, over_levels, some_over}
use Rattle.record.specs.Descr.{Field}
use Rattle.shape_verdict.specs.declared.Outline.{Outline}
use Rattle.shape_verdict.specs.Outline.{largest_in}
use Rattle.descr_totals.specs.declared.Totals.{Totals}

-- the lesser of the two
abbrev pub at_most : (most n : ℕ) → ℕ
at_most most n = min most n

-- the largest number of a u64
abbrev pub largest : ℕ
largest = 18446744073709551615

-- of a dtype
abbrev pub totals_of : Dtype → Totals
totals_of d =
    record {
      entries = at_most 513 (entries_of d);
      names = at_most 65537 (name_bytes_of d);
      object = has_object d;
      over_levels = over_levels d;
      over = some_over d;
      size = as_bytes (at_most largest (size_of d));
    }

-- of fields, as they add up to their record's
abbrev pub totals_in : Fields → Totals
totals_in fs =
    record {
      entries = at_most 513 (entries_in fs);
      names = at_most 65537 (name_bytes_in fs);
      object = some_entry_in (plain_only (λ t. is_object t.letter)) fs;
      over_levels = some_entry_in (λ e. ltb 32 (levels e)) fs;
      over = some_entry_in (λ e. over (size_of e)) fs || over (sizes_of fs);
      size = as_bytes (at_most largest (sizes_of fs));
    }

abbrev pub name_totals : ℕ → Totals
name_totals n = record { entries = 0; names = at_most 65537 n; object = false; over_levels = false; over = false; size = as_bytes 0 }

-- of two, one after the other
unfoldable pub together : Totals → Totals → Totals
together t u =
    record {
      entries = at_most 513 (t.entries + u.entries);
      names = at_most 65537 (t.names + u.names);
      object = t.object || u.object;
      over_levels = t.over_levels || u.over_levels;
      over = (t.over || u.over) || over (t.size.0 + u.size.0);
      size = as_bytes (at_most largest (t.size.0 + u.size.0));
    }

-- of a field: its name, and then its type
abbrev pub field_totals : Field → Totals
field_totals f = together (name_totals (length f.name)) (totals_of f.type)

-- of the array levels of a sub-shape and its type: 513 is one over the 512 entries of 20, 32 the dimensions of 13
unfoldable pub arrayed : Outline → Totals → Totals
arrayed o t =
    record {
      entries = at_most 513 (o.rank + t.entries);
      names = t.names;
      object = t.object;
      over_levels = ltb 32 o.rank || t.over_levels;
      over = bytes_over (largest_in o t.size.0) || t.over;
      size = cond o.empty (as_bytes 0) (held_bytes (largest_in o t.size.0));
    }
