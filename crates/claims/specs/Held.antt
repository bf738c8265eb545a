-- Document 01, "What the collector buys": "It holds the file's first 65,536 bytes ..; a longer file whose header ends past those gets 23 right after 4". For a caller who
-- holds only the first k bytes of a longer file, at least 12, the longest prefix, `header::read_held` returns what `header::read` returns for the whole file if the header
-- ends within them; else 23, with the rooms unchanged. The same of `npy_read_held` and `npy_read`.
use Rattle.header.specs.declared.Header.{Header}
use Rattle.std.specs.Prelude.{ℕ, ◌<◌, ◌≤◌, ◌≡◌, true, List, length, take, Err, Result}
use Rattle.counts.specs.Outcome.{gives}
use Rattle.refusal.specs.declared.Refusal.{Refusal}
use Rattle.record.specs.Prefix.{Prefix, data_start_of, prefix}
use Rattle.record.specs.Rooms.{Lent}
use Rattle.claims.specs.Functions.{Read, ReadHeld}
use Rattle.claims.specs.InC.{NpyRead, NpyReadHeld}

-- a call with the first k bytes, against the whole file: `Whole` where the call with the whole file has the same result, `Refused23` where it is 23 and nothing has changed
pub record AsWhole (k : ℕ) (file : List ℕ) (Whole Refused23 : Type 0) : Type 0 where
  -- the header ends within the k bytes, or the prefix is refused (1, 2 or 4, which the first 12 bytes decide)
  pub within : ((p : Prefix) → prefix file ≡ gives p → data_start_of p ≤ k) → Whole
  -- the header ends past them: 23
  pub past : (p : Prefix) → prefix file ≡ gives p → k < data_start_of p → Refused23

-- the claim, for every longer file
pub record HeldEnough : Type 0 where
  pub read_held : (k : ℕ) (file : List ℕ) (l l' : Lent) (x : Result Header Refusal) → 12 ≤ k → k < length file → ReadHeld true (take k file) l x l'
      → AsWhole k file (Read file l x l') ((x ≡ Err Refusal.Room) × (l' ≡ l))
  pub npy_read_held : (k : ℕ) (file : List ℕ) (l l' : Lent) (said said' : List ℕ) (r : ℕ) → 12 ≤ k → k < length file → NpyReadHeld true (take k file) l said r l' said'
      → AsWhole k file (NpyRead file l said r l' said') ((r ≡ 23) × (l' ≡ l) × (said' ≡ said))
