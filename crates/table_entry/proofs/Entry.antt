-- An entry is its nine numbers, and past its end a table has none.
use Prim.Native.Nat.{ℕ, ◌+◌, ◌*◌, ◌≤◌, ◌<◌}
use native.Mathlib.Omega.{arith}
use mathlib.Core.Path.{◌≡◌, sym}
use mathlib.Core.Logic.{⊎_elim}
use mathlib.Core.List.{List}
use lib.ListN.{length, get_or, drop, get_or-eq_default}
use lib.Seq.{get_or-drop}
use Rattle.counts.proofs.Sides.{lt_or_ge}
use Rattle.dtype.specs.declared.Entry.{Entry}
use Rattle.dtype.specs.Record.{entry_width}
use Rattle.dtype.specs.Agrees.{entry_at}

-- past its end a table has no number
pub past_end : (t : List ℕ) (n k : ℕ) → length t ≤ n + k → 0 ≡ get_or (drop n t) k 0
past_end t n k h = rw (get_or-drop n t k 0) (sym (get_or-eq_default t 0 {n = n + k} h))

-- and so no array level
pub level_inside : (t : List ℕ) (c : ℕ) → (entry_at t c).kind ≡ 1 → c < length t
level_inside t c k =
    ⊎_elim (λ (h : c < length t). h) (λ (h : length t ≤ c). absurd (omega (arith, past_end t (entry_width * c) 1 (omega arith)))) (lt_or_ge c (length t))

-- an entry is its nine numbers
pub entry_of : (y : Entry) {a b c d e f g h i : ℕ} → a ≡ y.parent → b ≡ y.kind → c ≡ y.order → d ≡ y.letter → e ≡ y.number → f ≡ y.units → g ≡ y.extent → h ≡ y.bytes → i ≡ y.name
    → ◌≡◌ {A = Entry} (record { parent = a; kind = b; order = c; letter = d; number = e; units = f; extent = g; bytes = h; name = i }) y
entry_of y a b c d e f g h i = rw (a, b, c, d, e, f, g, h, i)
