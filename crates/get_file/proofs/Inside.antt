-- As many numbers as are answered are in the room.
use Rattle.std.specs.Prelude.{Some, Option}
use Prim.Native.Nat.{ℕ, ◌≤◌}
use native.Mathlib.Omega.{arith}
use mathlib.Core.Path.{◌≡◌, sym, ap, ◌∙◌}
use mathlib.Core.List.{List}
use lib.ListN.{length, drop, length-append}
use Rattle.counts.specs.Outcome.{Outcome, gives, refused, each, afterwards}
use Rattle.counts.specs.Lists.{at_front}
use Rattle.counts.specs.Owes.{Owes}
use Rattle.counts.proofs.Apart.{gives_apart, gives_refused}
use Rattle.get_file.specs.Numbers.{numbers_in, listed_answer}

pub numbers_inside : (text room : List ℕ) (r : Option ℕ) (room' : List ℕ) (n : ℕ) → Owes (numbers_in text room) room (listed_answer r) room' → r ≡ Some n → n ≤ length room'
numbers_inside text room r room' n w e = go (numbers_in text room) (sym (ap listed_answer e) ∙ w.answered) w.room_after
  where
    go : (o : Outcome (List ℕ)) → gives n ≡ each length o → room' ≡ afterwards at_front o room → n ≤ length room'
    go (gives ns) f g = omega (arith, gives_apart f, ap length g, length-append ns (drop (length ns) room))
    go (refused k) f g = gives_refused f
