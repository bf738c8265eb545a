-- The answers of `item`, by the tests that led there; and what is known of the size, the file and the index once there is an item.
use Rattle.std.specs.Prelude.{None, Some, Option}
use Prim.Native.Nat.{ℕ, ◌+◌, ◌*◌}
use mathlib.Core.Path.{◌≡◌, refl, ap, sym}
use mathlib.Core.Bool.{Bool, true, false}
use mathlib.Core.List.{List}
use native.Mathlib.Omega.{arith}
use lib.Dec.{ltb}
use Rattle.counts.specs.Outcome.{Outcome, gives, refused, each, unless}
use Rattle.counts.specs.declared.Bytes.{Bytes}
use Rattle.dtype.specs.declared.Order.{Order}
use Rattle.place_item.specs.Item.{item_of}
use Rattle.place_area.specs.declared.Numbered.{Numbered}
use Rattle.place_area.specs.Indexed.{numbered, indexed}

module _ (file start : ℕ) (size : Option Bytes) (count : ℕ) (o : Order) (s x : List ℕ) where
  pub answer_24 : size ≡ None → refused 24 ≡ indexed file start size count o s x
  answer_24 e = rw e

  module _ (n : Bytes) (q : size ≡ Some n) where
    pub answer_25 : true ≡ ltb file (start + count * n.0) → refused 25 ≡ indexed file start size count o s x
    answer_25 e = rw q (simp (sym e))

    -- an item, or what its number is refused with
    pub answer_item : ltb file (start + count * n.0) ≡ false → (c : Outcome ℕ) → c ≡ item_of o s x → each (numbered n) c ≡ indexed file start size count o s x
    answer_item e c v = rw q (simp (e, sym v))

-- ---- what an item shows
given_by : (size : Bytes) (i : Numbered) (b : Bool) (c : Outcome ℕ) → gives i ≡ unless b 25 (each (numbered size) c)
    → (size ≡ i.size) × (b ≡ false) × (gives i.which.0 ≡ c)
given_by size i true c e = let z : ◌≡◌ {A = ℕ} 0 1 = cc in absurd (omega arith)
given_by size i false (refused m) e = let z : ◌≡◌ {A = ℕ} 0 1 = cc in absurd (omega arith)
given_by size i false (gives m) e =
    let z : i ≡ numbered size m = cc in
    (sym (ap (λ (j : Numbered). j.size) z), refl, ap (λ (j : Numbered). gives j.which.0) z)

pub item_shows : (file start count : ℕ) (o : Order) (s x : List ℕ) (size : Option Bytes) (i : Numbered) → gives i ≡ indexed file start size count o s x
    → (size ≡ Some i.size) × (ltb file (start + count * i.size.0) ≡ false) × (gives i.which.0 ≡ item_of o s x)
item_shows file start count o s x (Some n) i e =
    let v = given_by n i (ltb file (start + count * n.0)) (item_of o s x) e in
    (ap Some v.0, rw v.0 at v.1, v.2)
item_shows file start count o s x None i e = let z : ◌≡◌ {A = ℕ} 0 1 = cc in absurd (omega arith)
