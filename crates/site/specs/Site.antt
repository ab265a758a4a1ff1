-- Document 01, "The card" (fields 8 and 9), "The horizon" (their units) and refusal 5 (RULES.md, "Fields", "The horizon" and "Refusals"): the position
-- that two numbers name, north and east positive.
use Rattle.std.specs.Prelude.{Bool, ◌&&◌, List, [], ◌∷◌, ℕ, ℤ, pos, neg_ℤ, ◌*ℤ◌, Result, Ok, Err}
use Rattle.refusal.specs.RefusalNumbers.{number_of}
use Rattle.refusal.specs.Tests.{Test, test, decided}
use Rattle.refusal.specs.declared.Refusal.{Refusal}
use Rattle.exact.specs.Range.{between}
use Rattle.site.specs.declared.Site.{Site}

-- field 8, in 0.1″: to 89° north or south
abbrev pub is_latitude : ℤ → Bool
is_latitude latitude = between (neg_ℤ (pos 3_204_000)) latitude (pos 3_204_000)

-- field 9, in 0.1″: half a turn east is one, half a turn west is the same meridian and is not
abbrev pub is_longitude : ℤ → Bool
is_longitude longitude = between (neg_ℤ (pos 6_479_999)) longitude (pos 6_480_000)

unfoldable pub is_site : Site → Bool
is_site site = is_latitude site.latitude && is_longitude site.longitude

-- 0.1″ is a thousand units of 0.0001″
abbrev pub in_units : ℤ → ℤ
in_units field = field *ℤ pos 1_000

-- the same two in units of 0.0001″, as the horizon takes them
pub record Position : Type 0 where
  pub latitude : ℤ
  pub longitude : ℤ

abbrev pub position_at : ℤ → ℤ → Position
position_at latitude longitude = record { latitude = latitude; longitude = longitude }

abbrev pub position : Site → Position
position site = position_at (in_units site.latitude) (in_units site.longitude)

-- what two numbers are answered with: 0 with φ and the longitude in units, or the refusal's number with zeros
pub record LocatedValues : Type 0 where
  pub refusal : ℕ
  pub latitude : ℤ
  pub longitude : ℤ

abbrev pub refused : ℕ → LocatedValues
refused k = record { refusal = k; latitude = pos 0; longitude = pos 0 }

abbrev pub accepted : Position → LocatedValues
accepted p = record { refusal = 0; latitude = p.latitude; longitude = p.longitude }

-- what is asked of them
abbrev pub site_tests : Site → List Test
site_tests site = test (is_site site) 5 ∷ []

unfoldable pub position_of : Site → LocatedValues
position_of site = decided (site_tests site) (accepted (position site)) refused

-- the number and the values of each case of the code's answer
abbrev pub located_values : Result Position Refusal → LocatedValues
located_values (Ok p) = accepted p
located_values (Err r) = refused (number_of r)
