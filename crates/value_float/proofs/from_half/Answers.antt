-- `value_float::from_half` meets its contract: by the exponent's field.
use native.Mathlib.Omega.{arith}
use mathlib.Core.Path.{sym, ap, ◌∙◌}
use Prim.Native.Nat.{ℕ, ◌+◌, ◌*◌, ◌/◌, ◌%◌}
use borrow.Author.Tests.{eq-eqb, ne_eqb}
use Rattle.value_float.specs.Floats.{single_of}
use Rattle.value_float.specs.Half.{is_negative, widened, half_of}
use Rattle.value_float.proofs.Fields.{sign_few}
use Rattle.value_float.proofs.from_half.Goals as goal

pub overflow_add-sign_bits : goal.overflow_add-sign_bits
overflow_add-sign_bits c = omega (arith, c.sign_bits.ensures, sign_few (is_negative c.args.bits))

pub returns-then-exponent-eq-HALF_INFINITY : goal.returns-then-exponent-eq-HALF_INFINITY
unfolding half_of widened
returns-then-exponent-eq-HALF_INFINITY c =
    let bits = c.args.bits in
    c.single_of.ensures
    ∙ ap (λ (n : ℕ). single_of (n + (0x7F800000 + bits % 1024 * 0x2000))) c.sign_bits.ensures
    ∙ sym (rw (half_of, widened, eq-eqb (bits / 1024 % 32) 31 c.if-exponent-eq-HALF_INFINITY.true))

pub returns : goal.returns
unfolding half_of widened
returns c =
    let bits = c.args.bits in
    c.finite.ensures ∙ sym (rw (half_of, widened, ne_eqb (bits / 1024 % 32) 31 c.if-exponent-eq-HALF_INFINITY.false))
