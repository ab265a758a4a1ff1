-- Document 01, "Time" (RULES.md, "Time", argument): the angle that three coefficients give at an epoch.
use Rattle.std.specs.Prelude.{List, map, ℕ, ◌^◌, ℤ, pos, ◌+ℤ◌, ◌*ℤ◌}
use Rattle.exact.specs.Reduction.{reduced}
use Rattle.exact.specs.Century.{century}
use Rattle.exact.specs.Division.{floor_div}
use Rattle.exact.specs.Nth.{nth}
use Rattle.secular.specs.FlooredPolynomial.{polynomial, value}
use Rattle.epoch.specs.Epoch.{Epoch}

-- c1 goes with N itself, c0 and c2 are a floored polynomial in q; the sum is reduced
unfoldable pub argument : List ℤ → Epoch → ℕ
argument row e = reduced (floor_div (nth row 1 *ℤ e.n) century +ℤ value (polynomial (nth row 0) (pos 0) (nth row 2) (10 ^ 12)) e.q)

-- of each row of a table, held as signed numbers so that multiples of them can be taken
abbrev pub arguments_by : List (List ℤ) → Epoch → List ℤ
arguments_by rows e = map (λ row. pos (argument row e)) rows
