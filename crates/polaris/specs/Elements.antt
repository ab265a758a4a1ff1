-- Document 01, "Polaris" (RULES.md, "Polaris"): p, and the angles that change with it.
use Rattle.std.specs.Prelude.{ℕ, ℤ, pos, ◌+ℤ◌, ◌-ℤ◌, ◌*ℤ◌}
use Rattle.exact.specs.Division.{floor_div}
use Rattle.secular.specs.FlooredPolynomial.{value}
use Rattle.epoch.specs.Epoch.{Epoch}
use Rattle.polaris.specs.PrintedElements.{right_ascension, declination, zeta, z_less_zeta, theta}
use Rattle.polaris.specs.declared.Elements.{Elements}

-- 1975.0, in milliseconds since 1900 January 0.5, and a tropical century, in milliseconds (001 section 3.2)
abbrev pub epoch1975 : ℤ
epoch1975 = pos 2_366_796_499_200

abbrev pub tropical_century : ℕ
tropical_century = 3_155_692_599_360

-- p: the millionths of a tropical century between 1975.0 and N, rounded down
unfoldable pub tropical_millionths : Epoch → ℤ
tropical_millionths e = floor_div (pos 1_000_000 *ℤ (e.n -ℤ epoch1975)) tropical_century

-- α and δ with their proper motion, and the angles ζ, θ and z of precession, in units
abbrev pub elements_of : ℤ → Elements
elements_of p =
    record {
      alpha = value right_ascension p;
      delta = value declination p;
      zeta = value zeta p;
      theta = value theta p;
      z = value zeta p +ℤ value z_less_zeta p;
    }
