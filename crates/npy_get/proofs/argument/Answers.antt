-- As many numbers as are answered are in the room.
use Rattle.get_file.proofs.Inside.{numbers_inside}
use Rattle.npy_get.proofs.argument.Goals as goal

pub returns : goal.returns
returns g c = λ n e. numbers_inside _ _ _ _ n c.numbers.ensures e
