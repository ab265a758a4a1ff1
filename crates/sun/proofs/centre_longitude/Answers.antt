-- The sum is small enough to be reduced.
use mathlib.Core.Path.{refl, ap, ◌∙◌}
use Prim.Native.Nat.{◌≤◌, ◌<◌, ◌^◌}
use native.Mathlib.Omega.{arith}
use lib.IntN.{ℤ, nat_abs, ◌+ℤ◌}
use mir.Facts.{to_z-of_z}
use mir.Syntax.{w64}
use mir.Val.{SFits}
use Rattle.exact.specs.Reduction.{turn, reduced}
use Rattle.exact.proofs.Differences.{split, zs}
use Rattle.exact.proofs.Machine.{ok-fits, fits_lt}
use Rattle.arguments.specs.PrintedArguments.{L}
use Rattle.sun.specs.Longitude.{mean_longitude, centre_longitude}
use Rattle.sun.proofs.centre_longitude.Goals.{After-equation_of_centre}
use Rattle.sun.proofs.centre_longitude.Goals as goal

module _ (c : After-equation_of_centre) where
  abbrev mean : ℤ
  mean = mean_longitude c.args.arguments.now

  abbrev centre : ℤ
  centre = c.equation_of_centre.result

  fit : SFits w64 mean × SFits w64 centre
  fit = (fits_lt turn mean (c.requires.reduced L) refl, ok-fits centre c.equation_of_centre.type_inv)

  sum : SFits w64 (mean +ℤ centre) × (nat_abs (mean +ℤ centre) ≤ 2 ^ 61)
  sum = go mean centre (c.requires.reduced L) c.equation_of_centre.ensures.1
    where
      go : (l f : ℤ) → nat_abs l < turn → nat_abs f ≤ 2 ^ 27 → SFits w64 (l +ℤ f) × (nat_abs (l +ℤ f) ≤ 2 ^ 61)
      go l f = rw (split l, split f) (simp zs (omega arith))

pub overflow_add-arguments : goal.overflow_add-arguments
overflow_add-arguments c = let d = (goal.at.overflow_add-arguments c).After-equation_of_centre in simp (to_z-of_z, (fit d).0, (fit d).1) (sum d).0

pub reduced_bounded-requires : goal.reduced_bounded-requires
reduced_bounded-requires c = let d = (goal.at.reduced_bounded-requires c).After-equation_of_centre in simp (to_z-of_z, (fit d).0, (fit d).1, (sum d).0) (sum d).1

pub returns : goal.returns
unfolding centre_longitude
returns c =
    let d = (goal.at.returns c).After-equation_of_centre in
    let e = simp (to_z-of_z, (fit d).0, (fit d).1, (sum d).0) at c.reduced_bounded.ensures.0 in
    (e ∙ ap (λ (z : ℤ). reduced (mean d +ℤ z)) c.equation_of_centre.ensures.0, c.reduced_bounded.ensures.1)
