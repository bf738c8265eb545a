-- `utf8_scalar::encode` meets its contract: the library's encoding is that of Table 3-6, and it is copied where the room has its length.
use Rattle.std.specs.Prelude.{Option, Some, Err, is_some}
use Prim.Native.Nat.{ℕ}
use mathlib.Core.Path.{◌≡◌, refl, sym, ap, ◌∙◌, subst}
use mathlib.Core.Bool.{true}
use mathlib.Core.List.{List}
use native.Mathlib.Omega.{arith}
use lib.ListN.{length}
use Rattle.counts.proofs.HandedOn.{handed_on}
use Rattle.refusal.specs.declared.Refusal.{Refusal}
use Rattle.utf8_scalar.specs.Scalar.{is_scalar}
use Rattle.utf8_scalar.specs.Encode.{encode}
use Rattle.utf8_scalar.specs.Answer.{Encodes}
use Rattle.utf8_scalar.proofs.Scalars.{char_or_none}
use Rattle.utf8_scalar.proofs.Writing.{written, not_scalar, no_room, table_rows, some_given, none_given}
use Rattle.utf8_scalar.proofs.encode.Goals as goal
use Rattle.utf8_scalar.proofs.encode.Goals.{After-as_bytes-encoded}

pub returns-in_err-c : goal.returns-in_err-c
returns-in_err-c c =
    let value = c.args.value in
    let room = c.args.room.now in
    let none = none_given c.from_u32.result Refusal.Scalar c.in_err-c.field-0.0 (sym c.ok_or.ensures.value ∙ c.in_err-c.was) in
    let not = sym (char_or_none c.from_u32.result value c.from_u32.ensures.cases) ∙ ap (λ (o : Option ℕ). is_some o) none.0 in
    rw (handed_on _ c.in_err-c.field-0.0 c.from_residual.ensures) (subst (λ (e : Refusal). Encodes value room (Err e) room) none.1 (not_scalar value room not))

-- where the value is the code of a `char`
module _ (c : goal.After-as_bytes-encoded) where
  some : c.from_u32.result ≡ Some c.in_ok-c.c
  some = some_given c.from_u32.result Refusal.Scalar c.in_ok-c.c (sym c.ok_or.ensures.value ∙ c.in_ok-c.was)

  scalar : is_scalar c.args.value ≡ true
  scalar = sym (char_or_none c.from_u32.result c.args.value c.from_u32.ensures.cases) ∙ ap (λ (o : Option ℕ). is_some o) some

  bytes : encode c.args.value ≡ c.as_bytes-encoded.result.now
  bytes =
      let same : c.in_ok-c.c ≡ c.args.value = (rw some at c.from_u32.ensures.value).1 in
      sym (c.as_bytes-encoded.ensures.value ∙ c.encode_utf8.ensures.value ∙ table_rows c.in_ok-c.c ∙ ap (λ (v : ℕ). encode v) same)

pub returns-then-room-encoded : goal.returns-then-room-encoded
returns-then-room-encoded c =
    let d = (goal.at.returns-then-room-encoded c).After-as_bytes-encoded in
    no_room _ _ (scalar d) (omega (arith, c.if-room-encoded.true, ap (λ (l : List ℕ). length l) (bytes d)))

pub returns : goal.returns
returns c =
    let d = (goal.at.returns c).After-as_bytes-encoded in
    rw c.put.ensures (written _ _ _ _ (scalar d) (bytes d) c.if-room-encoded.false refl)
