-- Document 01, "Header bytes out": "Then the fewest spaces and one LF that make prefix plus text a multiple of 16. Any non-ASCII byte: (3,0). Otherwise (1,0) if
-- the padded text is at most 65,535 bytes, else (2,0).", and 4 "text over 131,072 bytes"; for 16 document 02, "Wish 4. Sixty-four, as NumPy says.", has 64. The parts are
-- record's Padding.antt; its `padding_unit` is the code's PADDING_UNIT.
use Rattle.std.specs.Prelude.{ℕ, ◌+◌, Bool, ltb}
use Rattle.counts.specs.Outcome.{Outcome, gives, unless}
use Rattle.record.specs.Prefix.{Version, one_zero, two_zero, three_zero, text_start, most_text}
use Rattle.record.specs.Padding.{spaces_after, padded_length, version_for}
use Rattle.header_prefix.specs.declared.Version.{Version as Chosen}
use Rattle.header_prefix.specs.declared.Version.TheVariants.{OneZero, TwoZero, ThreeZero}
use Rattle.write_padding.specs.declared.PaddingPlan.{PaddingPlan}

-- a version as the code names it; the way back is `version_is` of header_prefix
abbrev pub chosen : Version → Chosen
chosen one_zero = OneZero
chosen two_zero = TwoZero
chosen three_zero = ThreeZero

-- how a text of n bytes is written as a version
abbrev pub plan_with : Version → ℕ → PaddingPlan
plan_with v n = record { version = chosen v; spaces = spaces_after (text_start v + n); text = padded_length v n; whole = text_start v + padded_length v n }

-- how a text of n bytes is written, or 4
unfoldable pub planned : (ascii : Bool) → ℕ → Outcome PaddingPlan
planned ascii n = unless (ltb most_text (padded_length (version_for ascii n) n)) 4 (gives (plan_with (version_for ascii n) n))
