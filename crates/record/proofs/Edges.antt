-- The table of the edges of padding and version (specs/Edges.antt): those of all lengths are laws of Padded.antt, the others are computed.
use mathlib.Core.Path.{refl}
use Rattle.decimal.specs.Decimal.{last_digits, printed}
use Rattle.literal_grammar.specs.Print.{escape_of}
use Rattle.type_str.specs.Text.{type_text}
use Rattle.record.specs.Padding.{spaces_after, version_for}
use Rattle.record.specs.File.{version, text, text_length_of, file_of}
use Rattle.record.specs.Edges.{PaddingEdges}
use Rattle.record.proofs.Padded.{as_one_zero, as_two_zero, as_three_zero, padded_fits, padded_too_long}

pub edges : PaddingEdges
unfolding printed last_digits escape_of type_text spaces_after version_for version text text_length_of file_of
edges =
    record {
      three_written = refl;
      three_long = refl;
      up_to_65525 = as_one_zero;
      from_65526 = as_two_zero;
      not_ascii = as_three_zero;
      ascii_7f = refl;
      not_ascii_80 = refl;
      spaces_65525 = refl;
      padded_65525 = refl;
      spaces_65526 = refl;
      padded_65526 = refl;
      one_zero_65526 = refl;
      up_to_131059 = λ ascii n h. (padded_fits (version_for ascii n) n h).0;
      from_131060 = padded_too_long;
      padded_131059 = refl;
      padded_131060 = refl;
      longest = λ ascii n h. (padded_fits (version_for ascii n) n h).1;
      padded_53 = refl;
      padded_54 = refl;
      padded_51 = refl;
      padded_52 = refl;
    }
