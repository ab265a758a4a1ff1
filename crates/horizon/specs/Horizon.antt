-- Document 01, "The horizon", and refusals 7 and 8 (RULES.md, "The horizon" and "Refusals"): a direction as an observer sees it. Angles are in units of
-- 0.0001″.
use Rattle.std.specs.Prelude.{not, List, [], ◌∷◌, ℕ, ◌+◌, ◌*◌, ◌^◌, ltb, ℤ, pos, neg_ℤ, nat_abs, ◌+ℤ◌, ◌-ℤ◌, ◌*ℤ◌, Result, Ok, Err}
use Rattle.std.specs.Int.Signed.{lt_z}
use Rattle.refusal.specs.RefusalNumbers.{number_of}
use Rattle.refusal.specs.Tests.{Test, test, decided}
use Rattle.refusal.specs.declared.Refusal.{Refusal}
use Rattle.exact.specs.Division.{nearest_div}
use Rattle.exact.specs.Largest.{root}
use Rattle.exact.specs.Nth.{nth}
use Rattle.sine_table.specs.Table.{R}
use Rattle.vector_angle.specs.VectorAngle.{angle}
use Rattle.rotation.specs.Rotation.{rotated, sin_of, cos_of, rotation3}
use Rattle.site.specs.Site.{Position}
use Rattle.horizon.specs.declared.SightAngles.{SightAngles}

-- ---- the view
-- (x', east, z): the direction rotated by R3 to the meridian of a longitude, at Greenwich's sidereal time
unfoldable pub to_meridian : ℤ → ℤ → List ℤ → List ℤ
to_meridian sidereal longitude d = rotated (rotation3 (sidereal +ℤ longitude)) d

-- up, of x' and z at latitude φ
unfoldable pub up : ℤ → ℤ → ℤ → ℤ
up φ x z = nearest_div (x *ℤ cos_of φ +ℤ z *ℤ sin_of φ) R

-- north
unfoldable pub north : ℤ → ℤ → ℤ → ℤ
north φ x z = nearest_div (z *ℤ cos_of φ -ℤ x *ℤ sin_of φ) R

-- up, east and north of (x', east, z)
unfoldable pub to_horizon : ℤ → List ℤ → List ℤ
to_horizon φ m = up φ (nth m 0) (nth m 2) ∷ nth m 1 ∷ north φ (nth m 0) (nth m 2) ∷ []

-- the components by which a body is seen, 01's x', up, east and north
pub record View : Type 0 where
  pub x : ℤ
  pub up : ℤ
  pub east : ℤ
  pub north : ℤ

abbrev pub view : ℤ → ℤ → ℤ → ℤ → View
view x u e n = record { x = x; up = u; east = e; north = n }

-- of direction d, at Greenwich's sidereal time, from a position
unfoldable pub view_from : ℤ → Position → List ℤ → View
view_from sidereal position d =
    let m = to_meridian sidereal position.longitude d in
    let h = to_horizon position.latitude m in
    view (nth m 0) (nth h 0) (nth h 1) (nth h 2)

-- ---- the angles
-- what a sight is answered with: 0 with the three angles, or a refusal's number with zeros
pub record SightValues : Type 0 where
  pub refusal : ℕ
  pub azimuth : ℕ
  pub zenith_distance : ℕ
  pub hour_angle : ℕ

-- the square of the horizontal part, from the magnitudes of north and east
unfoldable pub horizontal_square : ℤ → ℤ → ℕ
horizontal_square n e = nat_abs n * nat_abs n + nat_abs e * nat_abs e

-- the azimuth runs from north clockwise; the zenith distance takes the whole root of the horizontal square, rounded down; the hour angle is
-- positive to the west
unfoldable pub seen : View → SightValues
seen v =
    record {
      refusal = 0;
      azimuth = angle v.north v.east;
      zenith_distance = angle v.up (pos (root (horizontal_square v.north v.east)));
      hour_angle = angle v.x (neg_ℤ v.east);
    }

-- ---- the refusals
abbrev pub refused : ℕ → SightValues
refused k = record { refusal = k; azimuth = 0; zenith_distance = 0; hour_angle = 0 }

-- what is asked of a view, in the stated order: the body is not below the horizon (up = 0 passes), and not too near the zenith
abbrev pub sight_tests : View → List Test
sight_tests v =
    test (not (lt_z v.up (pos 0))) 7
    ∷ test (not (ltb (horizontal_square v.north v.east) (10 ^ 14))) 8
    ∷ []

unfoldable pub sight_of : View → SightValues
sight_of v = decided (sight_tests v) (seen v) refused

-- the number and the values of each case of the code's answer
abbrev pub sight_values : Result SightAngles Refusal → SightValues
sight_values (Ok a) = record { refusal = 0; azimuth = a.azimuth; zenith_distance = a.zenith_distance; hour_angle = a.hour_angle }
sight_values (Err r) = refused (number_of r)
