-- The data area: the end of the area and the first byte of an item by true products, and a part of a file as far as the file reaches.
use Rattle.std.specs.Prelude.{None, Some, Option}
use Prim.Native.Nat.{ℕ, ◌+◌, ◌*◌, ◌-◌, ◌^◌, ◌<◌, ◌≤◌, min}
use mathlib.Core.Path.{◌≡◌, ap, sym, ◌∙◌}
use mathlib.Core.Bool.{true}
use mathlib.Core.Logic.{⊎_elim}
use mathlib.Core.List.{List}
use native.Mathlib.Omega.{arith}
use borrow.Author.Tests.{lt-ltb}
use lib.Dec.{ltb}
use lib.ListN.{length, take, drop, length-drop, drop_of_length-le}
use lib.Seq.{take-length, take_all, take-nil}
use Rattle.counts.specs.Number.{number}
use Rattle.counts.specs.Counts.{bytes}
use Rattle.counts.specs.declared.Bytes.{Bytes}
use Rattle.counts.proofs.Counted.{bytes_back, bytes_over_lem, over_bytes}
use Rattle.counts.proofs.Sides.{lt_or_ge}

-- ---- `is_short`
module _ (file start count size : ℕ) where
  pub area_over : file < 2 ^ 64 → None ≡ bytes (number (count * size)) → true ≡ ltb file (start + count * size)
  area_over f e = sym (lt-ltb file (start + count * size) (omega (arith, bytes_over_lem (count * size) e)))

  module _ (area : Bytes) (e : Some area ≡ bytes (number (count * size))) where
    pub end_over : file < 2 ^ 64 → None ≡ bytes (number (start + area.0)) → true ≡ ltb file (start + count * size)
    end_over f g =
        sym (lt-ltb file (start + count * size) (omega (arith, (bytes_back (count * size) area e).0, bytes_over_lem (start + area.0) g)))

    pub end_is : (end : Bytes) → Some end ≡ bytes (number (start + area.0)) → ltb file end.0 ≡ ltb file (start + count * size)
    end_is end g =
        let z : end.0 ≡ start + count * size = omega (arith, (bytes_back (count * size) area e).0, (bytes_back (start + area.0) end g).0) in
        ap (λ (n : ℕ). ltb file n) z

-- ---- `first_byte`
module _ (start which size off : ℕ) where
  pub before_over : None ≡ bytes (number (which * size)) → None ≡ bytes (number (start + which * size + off))
  before_over e = over_bytes (start + which * size + off) (omega (arith, bytes_over_lem (which * size) e))

  module _ (before : Bytes) (e : Some before ≡ bytes (number (which * size))) where
    pub item_over : None ≡ bytes (number (start + before.0)) → None ≡ bytes (number (start + which * size + off))
    item_over g =
        over_bytes (start + which * size + off) (omega (arith, (bytes_back (which * size) before e).0, bytes_over_lem (start + before.0) g))

    pub first_is : (at : Bytes) → Some at ≡ bytes (number (start + before.0)) → (r : Option Bytes) → r ≡ bytes (number (at.0 + off))
        → r ≡ bytes (number (start + which * size + off))
    first_is at g r h =
        let z : at.0 + off ≡ start + which * size + off = omega (arith, (bytes_back (which * size) before e).0, (bytes_back (start + before.0) at g).0) in
        h ∙ ap (λ (n : ℕ). bytes (number n)) z

-- ---- `part`
pub part_least : (l : List ℕ) (n m a b : ℕ) → a ≡ min m (length l) → b ≡ min n (length l - a) → take (a + b - a) (drop a l) ≡ take n (drop m l)
part_least l n m a b p q =
    let z : a + b - a ≡ b = omega arith in
    rw z
    (⊎_elim
    (λ (h : m < length l).
    let y : a ≡ m = omega arith in
    rw y
    (⊎_elim
    (λ (g : n < length l - m). let w : b ≡ n = omega arith in rw w)
    (λ (g : length l - m ≤ n).
    let w : b ≡ length (drop m l) = omega (arith, length-drop m l) in
    rw w (take-length (drop m l) ∙ sym (take_all n (drop m l) (omega (arith, length-drop m l)))))
    (lt_or_ge n (length l - m))))
    (λ (h : length l ≤ m).
    let y : a ≡ length l = omega arith in
    let w : b ≡ 0 = omega arith in
    rw (y, w, drop_of_length-le l {i = m} h) (sym (take-nil n)))
    (lt_or_ge m (length l)))
