-- What keeps sums of multiples of angles within 64 bits: the angles are reduced, held as signed numbers.
use Rattle.std.specs.Prelude.{List, ℕ, ◌<◌, ℤ, nat_abs}
use Rattle.exact.specs.Reduction.{turn}
use Rattle.exact.specs.Nth.{nth}

abbrev pub AllReduced : List ℤ → Type 0
AllReduced angles = (i : ℕ) → nat_abs (nth angles i) < turn
