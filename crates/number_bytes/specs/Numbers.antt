-- Document 01, "From first byte to text": "little-endian"; "String elements": "in the type's byte order"; "What counts as an answer": "Integer widths and
-- both byte orders share one fact, proved over the width." So the bytes of a number are a list of any length, and the byte order says from which end it is read.
use Rattle.std.specs.Prelude.{ℕ, zero, suc, ◌+◌, ◌*◌, ◌/◌, ◌%◌, List, [], ◌∷◌, reverse}
use Rattle.type_letters.specs.declared.Endianness.{Endianness}
use Rattle.type_letters.specs.declared.Endianness.TheVariants.{Little, Big, Irrelevant}

-- the number written by bytes, the least significant first
abbrev pub little : List ℕ → ℕ
little [] = 0
little (b ∷ bs) = b + 256 * little bs

-- the `width` least significant bytes of n, the least significant first
abbrev pub least_bytes : (width n : ℕ) → List ℕ
least_bytes zero n = []
least_bytes (suc w) n = n % 256 ∷ least_bytes w (n / 256)

-- byte k of n, where byte 0 is the least significant
abbrev pub byte_of : (k n : ℕ) → ℕ
byte_of zero n = n % 256
byte_of (suc k) n = byte_of k (n / 256)

-- bytes of the given order with the least significant first, or back again: each clause is its own inverse. `|` is read as `<`
abbrev pub least_first : Endianness → List ℕ → List ℕ
least_first Little bs = bs
least_first Big bs = reverse bs
least_first Irrelevant bs = bs

-- the number in a run of bytes of the given order
unfoldable pub in_order : Endianness → List ℕ → ℕ
in_order order run = little (least_first order run)

-- n as a run of `width` bytes in the given order
unfoldable pub out_order : Endianness → (width n : ℕ) → List ℕ
out_order order width n = least_first order (least_bytes width n)
