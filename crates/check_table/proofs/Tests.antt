-- What a test decides: it is true exactly where the statement holds, so a test that fails rules the statement out.
use Prim.Native.Nat.{ℕ}
use mathlib.Core.Path.{◌≡◌, sym, ◌∙◌}
use mathlib.Core.Bool.{Bool, false}
use borrow.Author.Tests.{eqb-true, eq-eqb}
use lib.Dec.{eqb}
use Rattle.counts.proofs.Alike.{true_false}
use Rattle.check_table.specs.Decides.{Decides}

pub no : {P : Type 0} → (P → ⊥) → Decides false P
no f = record { only = λ e. true_false (sym e); all = λ p. absurd (f p) }

pub by_eqb : {P : Type 0} (x y : ℕ) → (x ≡ y → P) → (P → x ≡ y) → Decides (eqb x y) P
by_eqb x y f g = record { only = λ e. f (eqb-true x y e); all = λ p. eq-eqb x y (g p) }

-- what a failed test rules out
pub fails : {P : Type 0} (r : Bool) → Decides r P → r ≡ false → P → ⊥
fails r d e p = true_false (sym (d.all p) ∙ e)
