-- Document 02, "Wish 4. Sixty-four, as NumPy says.": what holds of every header that is written, and which padding is read. The 128 bytes and the edges of version and padding are
-- in Edges.antt (`padding_edges`).
use Rattle.refusal.specs.declared.Refusal.{Refusal}
use Rattle.header.specs.declared.Header.{Header}
use Rattle.std.specs.Prelude.{ℕ, ◌+◌, ◌^◌, ◌%◌, ◌<◌, ◌≤◌, ◌≡◌, true, false, List, [], ◌∷◌, ◌++◌, length, take, replicate, Ok, Result}
use Rattle.counts.specs.Outcome.{gives}
use Rattle.literal_grammar.specs.Bytes.{is_blank}
use Rattle.literal_grammar.specs.Grammar.{All}
use Rattle.dtype.specs.declared.Order.{Order}
use Rattle.dtype.specs.Record.{Record}
use Rattle.record.specs.Prefix.{Version, one_zero, two_zero, three_zero, length_width, text_start, most_text}
use Rattle.record.specs.Rooms.{Lent}
use Rattle.record.specs.Padding.{is_ascii}
use Rattle.record.specs.File.{bare_text, file_by}
use Rattle.check_record.specs.Valid.{Valid}
use Rattle.header.specs.Reads.{HeaderInfo, header_answer}
use Rattle.npy_codes.specs.Codes.{order_number, header_values}
use Rattle.claims.specs.Exact.{InText, InFile}
use Rattle.claims.specs.Functions.{Read, WriteHeader}
use Rattle.claims.specs.InC.{NpyRead, NpyWriteHeader}

-- a header's bytes for a record: its text, spaces (32) and one LF (10), in a version whose length field has the length of all three
pub record PaddedHeader (r : Record) (bytes : List ℕ) : Type 0 where
  pub version : Version
  pub spaces : ℕ
  pub text : List ℕ
  pub text_is : text ≡ bare_text r ++ (replicate spaces 32 ++ 10 ∷ [])
  pub is : bytes ≡ file_by version (length text) text
  -- "NumPy's format document asks that prefix plus text be a multiple of 64", with document 01's "fewest spaces"
  pub multiple : length bytes % 64 ≡ 0
  pub fewest : (k : ℕ) → (text_start version + length (bare_text r) + k + 1) % 64 ≡ 0 → spaces ≤ k
  -- "Unpadded dict text of 65,525 bytes is written as (1,0); 65,526 as (2,0)", and so for every length; "Any non-ASCII byte: (3,0)."
  pub short : is_ascii (bare_text r) ≡ true → length (bare_text r) ≤ 65525 → version ≡ one_zero
  pub long : is_ascii (bare_text r) ≡ true → 65526 ≤ length (bare_text r) → version ≡ two_zero
  pub not_ascii : is_ascii (bare_text r) ≡ false → version ≡ three_zero

-- "Correct the definition.": what was written is such a header, of the caller's record
pub record PaddedTo64 : Type 0 where
  pub write_header : (t ns s : List ℕ) (o : Order) (out out' : List ℕ) (n : ℕ) → WriteHeader t ns s o out (Ok (record { 0 = n })) out'
      → (r : Record) × Valid t ns s o r × PaddedHeader r (take n out')
  pub npy_write_header : (t ns s : List ℕ) (order : ℕ) (out out' count : List ℕ) (n : ℕ) → NpyWriteHeader t ns s order out count 0 out' (n ∷ [])
      → (o : Order) × (order ≡ order_number o) × ((r : Record) × Valid t ns s o r × PaddedHeader r (take n out'))

-- "Colleagues map our files and expect aligned data.": a header that was written has a multiple of 64 bytes, and where it is read, with anything after it, the data starts right
-- after it
abbrev pub Aligned : Type 0
Aligned =
    (t ns s : List ℕ) (o : Order) (out out' : List ℕ) (n : ℕ) → WriteHeader t ns s o out (Ok (record { 0 = n })) out'
    → (n % 64 ≡ 0) × ((rest : List ℕ) (l l' : Lent) (x : Result Header Refusal) (i : HeaderInfo) → Read (take n out' ++ rest) l x l' → header_answer x ≡ gives i → i.data_start ≡ n)

-- the same in C
abbrev pub AlignedInC : Type 0
AlignedInC =
    (t ns s : List ℕ) (order : ℕ) (out out' count : List ℕ) (n : ℕ) → NpyWriteHeader t ns s order out count 0 out' (n ∷ [])
    → (n % 64 ≡ 0) × ((rest : List ℕ) (l l' : Lent) (said said' : List ℕ) → NpyRead (take n out' ++ rest) l said 0 l' said'
    → (i : HeaderInfo) × (said' ≡ header_values i) × (i.data_start ≡ n))

-- "The reader accepts any padding, as before.": where a text gives a record with some blanks after it, the text with any others, or none, is the text of a header of that record, if it
-- has at most 131,072 bytes, in any version whose length field holds its length. By Exact.antt such a file is read where the rooms are large enough
abbrev pub AnyPadding : Type 0
AnyPadding =
    (text blanks others : List ℕ) (r : Record) → InText (text ++ blanks) r → All is_blank blanks → All is_blank others
    → let padded = text ++ others in
    length padded ≤ most_text → (v : Version) → length padded < 256 ^ length_width v → (rest : List ℕ)
    → InFile (file_by v (length padded) padded ++ rest) (record { version = v; says = r; data_start = text_start v + length padded })
