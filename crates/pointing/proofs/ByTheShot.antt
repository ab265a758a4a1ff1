-- A pointing by what its shot gave.
use mathlib.Core.Path.{◌≡◌}
use mathlib.Core.Bool.{Bool, cond}
use native.Mathlib.Omega.{arith}
use lib.IntN.{ℤ}
use borrow.Author.Tests.{ne_eqb}
use Rattle.refusal.specs.RefusalNumbers.{number_of}
use Rattle.refusal.specs.declared.Refusal.{Refusal}
use Rattle.refusal.proofs.Decisions.{number-above-zero}
use Rattle.exact.specs.Reduction.{is_reduced}
use Rattle.fieldbook.specs.Shot as Book
use Rattle.fieldbook.specs.Shot.{ShotValues}
use Rattle.pointing.specs.Pointing.{answered, refused, mark_azimuth, pointed}

-- a refused shot refuses its pointing
pub shot-refused : (r : Refusal) (angle : ℤ) → refused (number_of r) ≡ pointed (Book.refused (number_of r)) angle
unfolding pointed
shot-refused r angle = let h = number-above-zero r in rw (ne_eqb (number_of r) 0 λ e. omega arith)

-- an answered one leaves it to the angle
pub by-angle : (v : ShotValues) (angle : ℤ) (t : Bool) → v.refusal ≡ 0 → is_reduced angle ≡ t
    → cond t (answered (mark_azimuth v.azimuth angle)) (refused 15) ≡ pointed v angle
unfolding pointed
by-angle v angle t e f = rw (e, f)
