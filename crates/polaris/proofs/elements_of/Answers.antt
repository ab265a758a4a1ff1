-- Each number is a value of its row.
use mathlib.Core.Path.{◌≡◌}
use Prim.Native.Nat.{◌<◌, ◌^◌}
use native.Mathlib.Omega.{arith}
use lib.IntN.{ℤ, nat_abs, ◌+ℤ◌}
use mir.Facts.{to_z-of_z}
use mir.Syntax.{w64}
use mir.Val.{SFits}
use Rattle.exact.proofs.Differences.{split, zs}
use Rattle.exact.proofs.Machine.{held}
use Rattle.secular.specs.FlooredPolynomial.{value}
use Rattle.secular.specs.declared.Polynomial.{Polynomial}
use Rattle.polaris.specs.PrintedElements.{right_ascension, declination, zeta, z_less_zeta, theta}
use Rattle.polaris.proofs.Stored.{stored, value_of}
use Rattle.polaris.proofs.elements_of.Goals.{After-value-4}
use Rattle.polaris.proofs.elements_of.Goals as goal

sum-size : (a b : ℤ) → nat_abs a < 2 ^ 39 → nat_abs b < 2 ^ 39 → SFits w64 (a +ℤ b) × (nat_abs (a +ℤ b) < 2 ^ 40)
sum-size a b = rw (split a, split b) (simp zs (omega arith))

module _ (c : After-value-4) where
  abbrev ζ : ℤ
  ζ = c.value-zeta.result

  -- what z has beyond ζ
  abbrev more : ℤ
  more = c.value-4.result

  abbrev Is : Polynomial → ℤ → Type 0
  Is row r = (r ≡ value row c.args.p) × (nat_abs r < 2 ^ 39) × SFits w64 r

  found : Is zeta ζ × Is right_ascension c.value.result × Is declination c.value-2.result × Is theta c.value-3.result × Is z_less_zeta more
  unfolding held
  found =
      let f = c.ranges.p in (
        value_of stored.2 f c.value-zeta.ensures,
        value_of stored.0 f c.value.ensures,
        value_of stored.1 f c.value-2.ensures,
        value_of stored.4 f c.value-3.ensures,
        value_of stored.3 f c.value-4.ensures,
      )

  z-size : SFits w64 (ζ +ℤ more) × (nat_abs (ζ +ℤ more) < 2 ^ 40)
  z-size = sum-size ζ more found.0.1 found.4.1

pub overflow_add-result : goal.overflow_add-result
overflow_add-result c = simp (to_z-of_z, (found c).0.2, (found c).4.2) (z-size c).0

pub returns : goal.returns
returns c =
    let e = found c in
    simp (to_z-of_z, e.0.2, e.1.2, e.2.2, e.3.2, e.4.2, (z-size c).0) (
      cc (e.0.0, e.1.0, e.2.0, e.3.0, e.4.0),
      record {
        alpha = omega (arith, e.1.1);
        delta = omega (arith, e.2.1);
        zeta = omega (arith, e.0.1);
        theta = omega (arith, e.3.1);
        z = (z-size c).1;
      },
    )
