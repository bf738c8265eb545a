-- Both sides of each edge of padding and version, as one claim, `PaddingEdges`. Document 01, "Both sides of each edge (P: proved)": "Unpadded dict text of 65,525 bytes is
-- written as (1,0); 65,526 as (2,0) with 13 spaces." and "Whole header for `<i4`, C, (3)". Document 02, "Wish 4. Sixty-four, as NumPy says.", corrects both:
-- "The 80-byte header becomes 128 bytes: length bytes `76 00`, 59 spaces. The version choice reads from the new padding, so its edge cases are worked out afresh."
use Rattle.std.specs.Prelude.{ℕ, ◌+◌, ◌≤◌, ◌<◌, ◌≡◌, Bool, true, false, List, [], ◌∷◌, ◌++◌, length, replicate}
use Rattle.type_letters.specs.declared.Endianness.TheVariants.{Little}
use Rattle.type_letters.specs.declared.TypeChar.TheVariants.{Int}
use Rattle.type_units.specs.declared.TimeUnits.TheVariants.{Absent}
use Rattle.dtype.specs.declared.Order.TheVariants.{C}
use Rattle.dtype.specs.Dtype.{plain}
use Rattle.dtype.specs.Record.{Record}
use Rattle.record.specs.Prefix.{one_zero, two_zero, three_zero, text_start, most_text}
use Rattle.record.specs.Padding.{spaces_after, padded_length, is_ascii, version_for}
use Rattle.record.specs.File.{file_of}

-- `<i4`, C, (3)
abbrev pub three_i4 : Record
three_i4 = record { dtype = plain (record { order = Little; letter = Int; size = 4; units = Absent }); shape = 3 ∷ []; order = C }

-- its header with the length bytes n and 0 and this padding: `93 NUMPY 01 00`, the length bytes, "the 58 characters `{'descr': '<i4', 'fortran_order': False, 'shape': (3, ), }`", the padding
abbrev pub three_i4_header : (n : ℕ) (padding : List ℕ) → List ℕ
three_i4_header n padding =
    0x93 ∷ 78 ∷ 85 ∷ 77 ∷ 80 ∷ 89 ∷ 1 ∷ 0 ∷ n ∷ 0 ∷
    123 ∷ 39 ∷ 100 ∷ 101 ∷ 115 ∷ 99 ∷ 114 ∷ 39 ∷ 58 ∷ 32 ∷ 39 ∷ 60 ∷ 105 ∷ 52 ∷ 39 ∷ 44 ∷ 32 ∷
    39 ∷ 102 ∷ 111 ∷ 114 ∷ 116 ∷ 114 ∷ 97 ∷ 110 ∷ 95 ∷ 111 ∷ 114 ∷ 100 ∷ 101 ∷ 114 ∷ 39 ∷ 58 ∷ 32 ∷ 70 ∷ 97 ∷ 108 ∷ 115 ∷ 101 ∷ 44 ∷ 32 ∷
    39 ∷ 115 ∷ 104 ∷ 97 ∷ 112 ∷ 101 ∷ 39 ∷ 58 ∷ 32 ∷ 40 ∷ 51 ∷ 44 ∷ 32 ∷ 41 ∷ 44 ∷ 32 ∷ 125 ∷ padding

-- document 01's header, which is read: "`93 NUMPY 01 00 46 00` .. 11 spaces, LF: 80 bytes" (32 is a space, 10 LF)
abbrev pub eighty : List ℕ
eighty = three_i4_header 0x46 (replicate 11 32 ++ 10 ∷ [])

-- document 02's, which is written: "128 bytes: length bytes `76 00`, 59 spaces"
abbrev pub hundred_twenty_eight : List ℕ
hundred_twenty_eight = three_i4_header 0x76 (replicate 59 32 ++ 10 ∷ [])

-- the edges
pub record PaddingEdges : Type 0 where
  pub three_written : file_of three_i4 ≡ hundred_twenty_eight
  pub three_long : length (file_of three_i4) ≡ 128
  -- an ASCII text of up to 65,525 bytes is (1,0), and any longer one (2,0); one that is not ASCII is (3,0); 7F is ASCII, 80 is not
  pub up_to_65525 : (n : ℕ) → n ≤ 65525 → version_for true n ≡ one_zero
  pub from_65526 : (n : ℕ) → 65526 ≤ n → version_for true n ≡ two_zero
  pub not_ascii : (n : ℕ) → version_for false n ≡ three_zero
  pub ascii_7f : is_ascii (0x7F ∷ []) ≡ true
  pub not_ascii_80 : is_ascii (0x80 ∷ []) ≡ false
  -- 65,525 bytes: no space, 65,526 bytes when padded (65,536 with the prefix of 10)
  pub spaces_65525 : spaces_after (text_start one_zero + 65525) ≡ 0
  pub padded_65525 : padded_length one_zero 65525 ≡ 65526
  -- 65,526 bytes: 61 spaces, 65,588 bytes when padded (65,600 with the prefix of 12); as (1,0) it would be 65,590 when padded, which two length bytes do not hold
  pub spaces_65526 : spaces_after (text_start two_zero + 65526) ≡ 61
  pub padded_65526 : padded_length two_zero 65526 ≡ 65588
  pub one_zero_65526 : padded_length one_zero 65526 ≡ 65590
  -- 4, "text over 131,072 bytes": not up to 131,059 bytes, and from 131,060 on; when padded these two are 131,060 and 131,124 bytes. No header that is written is over 131,072
  pub up_to_131059 : (ascii : Bool) (n : ℕ) → n ≤ 131059 → padded_length (version_for ascii n) n ≤ most_text
  pub from_131060 : (ascii : Bool) (n : ℕ) → 131060 ≤ n → most_text < padded_length (version_for ascii n) n
  pub padded_131059 : padded_length two_zero 131059 ≡ 131060
  pub padded_131060 : padded_length two_zero 131060 ≡ 131124
  pub longest : (ascii : Bool) (n : ℕ) → n ≤ 131059 → text_start (version_for ascii n) + padded_length (version_for ascii n) n ≤ 131072
  -- (1,0): 53 bytes need only the LF, since prefix, text and LF are 64, and 54 need 63 spaces too; (3,0), whose text starts two bytes later: 51 and 52
  pub padded_53 : padded_length one_zero 53 ≡ 54
  pub padded_54 : padded_length one_zero 54 ≡ 118
  pub padded_51 : padded_length three_zero 51 ≡ 52
  pub padded_52 : padded_length three_zero 52 ≡ 116
