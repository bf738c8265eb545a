-- Integers of every width and both byte orders, in one fact each, by induction on the bytes: a number of w bytes is below 256 ^ w, what is written reads
-- back, and what is read is written back.
use Prim.Native.Nat.{ℕ, zero, suc, ◌+◌, ◌*◌, ◌/◌, ◌%◌, ◌^◌, ◌<◌}
use native.Mathlib.Omega.{arith}
use native.Mathlib.Nat.{pow-suc, div-lt_iff_lt-mul, mod-add-div, mod-lt}
use mathlib.Core.Path.{◌≡◌, refl, sym, ap, ◌∙◌}
use mathlib.Core.List.{List, [], ◌∷◌, reverse, reverse-cons}
use lib.ListN.{length}
use Rattle.counts.specs.Lists.{AllBytes}
use Rattle.counts.proofs.AllBytes.{bytes_append}
use Rattle.number_bytes.specs.Numbers.{little, least_bytes, least_first, in_order, out_order}
use Rattle.number_bytes.proofs.Runs.{length_least, least_least}
use Rattle.type_letters.specs.declared.Endianness.{Endianness}
use Rattle.type_letters.specs.declared.Endianness.TheVariants.{Little, Big, Irrelevant}

pub little_below : (bs : List ℕ) → AllBytes bs → little bs < 256 ^ length bs
little_below [] a = omega arith
little_below (b ∷ bs) a = omega (arith, little_below bs a.1, a.0, pow-suc 256 (length bs))

pub little_bytes : (w n : ℕ) → n < 256 ^ w → little (least_bytes w n) ≡ n
little_bytes zero n h = omega arith
little_bytes (suc w) n h =
    let below : n / 256 < 256 ^ w = (div-lt_iff_lt-mul {k = 256} {x = n} {y = 256 ^ w} (omega arith)).1 (omega (arith, pow-suc 256 w)) in
    ap (λ (m : ℕ). n % 256 + 256 * m) (little_bytes w (n / 256) below) ∙ mod-add-div n 256

pub bytes_little : (bs : List ℕ) → AllBytes bs → least_bytes (length bs) (little bs) ≡ bs
bytes_little [] a = refl
bytes_little (b ∷ bs) a =
    let l = little bs in
    let m : (b + 256 * l) % 256 ≡ b = omega (arith, a.0) in
    let d : (b + 256 * l) / 256 ≡ l = omega (arith, a.0) in
    rw (m, d) (ap (λ (t : List ℕ). b ∷ t) (bytes_little bs a.1))

all_reverse : (bs : List ℕ) → AllBytes bs → AllBytes (reverse bs)
all_reverse [] a = tt
all_reverse (b ∷ bs) a = rw reverse-cons (bytes_append (reverse bs) (b ∷ []) (all_reverse bs a.1) (a.0, tt))

all_least : (o : Endianness) (bs : List ℕ) → AllBytes bs → AllBytes (least_first o bs)
all_least Little bs a = a
all_least Big bs a = all_reverse bs a
all_least Irrelevant bs a = a

pub all_bytes : (w n : ℕ) → AllBytes (least_bytes w n)
all_bytes zero n = tt
all_bytes (suc w) n = (mod-lt n (omega arith), all_bytes w (n / 256))

-- ---- in either order
pub in_below : (o : Endianness) (run : List ℕ) → AllBytes run → in_order o run < 256 ^ length run
unfolding in_order
in_below o run a = rw (length_least o run) at (little_below (least_first o run) (all_least o run a))

pub in_out : (o : Endianness) (w n : ℕ) → n < 256 ^ w → in_order o (out_order o w n) ≡ n
unfolding in_order out_order
in_out o w n h = ap (λ (bs : List ℕ). little bs) (least_least o (least_bytes w n)) ∙ little_bytes w n h

pub out_in : (o : Endianness) (run : List ℕ) → AllBytes run → out_order o (length run) (in_order o run) ≡ run
unfolding in_order out_order
out_in o run a =
    let bs = least_first o run in
    ap (λ (w : ℕ). least_first o (least_bytes w (little bs))) (sym (length_least o run))
    ∙ ap (λ (l : List ℕ). least_first o l) (bytes_little bs (all_least o run a))
    ∙ least_least o run
