-- Document 01, "Refusal numbers" and "The horizon", and document 02, requests 3 and 7 (RULES.md, "Refusals", "The horizon" and "Options"): what the shot
-- with eleven plain numbers and the shot from a card answer. Angles are in units of 0.0001″.
use Rattle.std.specs.Prelude.{Bool, cond, List, ◌∷◌, ◌++◌, ℕ, ◌<◌, ℤ, pos, get_or, drop, Result, Ok, Err}
use Rattle.std.proofs.Math.Bool.{decide}
use Rattle.std.proofs.Math.IntN.{ℤ_discrete}
use Rattle.refusal.specs.RefusalNumbers.{number_of}
use Rattle.refusal.specs.Tests.{Test, test, decided}
use Rattle.refusal.specs.declared.Refusal.{Refusal}
use Rattle.exact.specs.Reduction.{turn}
use Rattle.exact.specs.Range.{between}
use Rattle.exact.specs.Nth.{nth}
use Rattle.epoch.specs.Epoch.{Epoch}
use Rattle.calendar.specs.Time.{instant_epochs, instant_tests}
use Rattle.calendar.specs.declared.Epochs.{Epochs}
use Rattle.arguments.specs.PrintedArguments.{arguments_of}
use Rattle.frame.specs.Nutation.{dpsi, epsilon0, epsilon}
use Rattle.frame.specs.Sidereal.{sidereal_time}
use Rattle.sun.specs.Editions.{is_edition}
use Rattle.sun.specs.Longitude.{aberration, apparent_longitude, centre_longitude}
use Rattle.sun.specs.Direction as Sun
use Rattle.polaris.specs.Apparent as Polaris
use Rattle.site.specs.Site.{position, site_tests}
use Rattle.site.specs.declared.Site.{Site}
use Rattle.site.specs.Site.{Position}
use Rattle.horizon.specs.Horizon.{View, view_from, seen, sight_tests}
use Rattle.card.specs.Confirmed.{numbers_in, card_tests}
use Rattle.card.specs.declared.Card.{Card}
use Rattle.fieldbook.specs.declared.Numbers.{Numbers}
use Rattle.fieldbook.specs.declared.Options.{Options}
use Rattle.fieldbook.specs.declared.Query.{Query}
use Rattle.fieldbook.specs.declared.ShotAngles.{ShotAngles}

-- ---- what a shot is asked with
-- the numbers of the fields, in the order and the units of RULES.md, "Fields": 1 to 7 and 11 the time, 8 and 9 the site, 10 the body
unfoldable pub numbers_of : List ℤ → Numbers
numbers_of fields = record {
  time = record {
    year = nth fields 0;
    month = nth fields 1;
    day = nth fields 2;
    hour = nth fields 3;
    minute = nth fields 4;
    millisecond = nth fields 5;
    dut1 = nth fields 6;
    delta_t = nth fields 10;
  };
  site = record { latitude = nth fields 7; longitude = nth fields 8 };
  body = nth fields 9;
}

-- request 7: how it is worked. An option that a list leaves out has its default: the short edition
abbrev pub defaults : Options
defaults = record { edition = pos 1 }

unfoldable pub options_of : List ℤ → Options
options_of l = record { edition = get_or l 0 defaults.edition }

-- how many options there are
abbrev pub option_count : ℕ
option_count = 1

abbrev pub query : Numbers → Options → Query
query x o = record { numbers = x; options = o }

-- of a list with the fields' numbers first, and the options from a place on
unfoldable pub query_of : List ℤ → ℕ → Query
query_of l place = query (numbers_of l) (options_of (drop place l))

-- ---- the values of an answer
-- the refusal's number, 0 where there is none, and azimuth, zenith distance, hour angle and s
pub record ShotValues : Type 0 where
  pub refusal : ℕ
  pub azimuth : ℕ
  pub zenith_distance : ℕ
  pub hour_angle : ℕ
  pub longitude : ℕ

-- a refusal has zero angles
abbrev pub refused : ℕ → ShotValues
refused k = record { refusal = k; azimuth = 0; zenith_distance = 0; hour_angle = 0; longitude = 0 }

-- the number and the values of each case of the code's answer
abbrev pub shot_values : Result ShotAngles Refusal → ShotValues
shot_values (Ok a) = record { refusal = 0; azimuth = a.azimuth; zenith_distance = a.zenith_distance; hour_angle = a.hour_angle; longitude = a.longitude }
shot_values (Err r) = refused (number_of r)

-- every angle is below a full circle
abbrev pub ShotReduced : ShotValues → Type 0
ShotReduced v = (v.azimuth < turn) × (v.zenith_distance < turn) × (v.hour_angle < turn) × (v.longitude < turn)

-- ---- a body at the epochs of an instant
-- field 10: 1 is the Sun, 2 Polaris
abbrev pub is_sun : ℤ → Bool
is_sun body = decide (ℤ_discrete body (pos 1))

abbrev pub is_body : ℤ → Bool
is_body body = between (pos 1) body (pos 2)

-- the Sun's s by an edition, and its direction
unfoldable pub sun_longitude : ℤ → Epoch → ℕ
sun_longitude edition e = apparent_longitude edition aberration e

unfoldable pub sun_direction : ℤ → Epoch → List ℤ
sun_direction edition e = Sun.direction (sun_longitude edition e) (epsilon (arguments_of e) e.q)

unfoldable pub polaris_direction : Epoch → List ℤ
polaris_direction e =
    let a = arguments_of e in
    Polaris.direction e (epsilon0 a) (dpsi a e.q) (epsilon a e.q) (centre_longitude a e.q)

-- the direction of a body, with options of which Polaris heeds none, and the apparent longitude that an answer gives: s, and 0 for Polaris
abbrev pub direction_of : Epoch → ℤ → Options → List ℤ
direction_of e body o = cond (is_sun body) (sun_direction o.edition e) (polaris_direction e)

abbrev pub longitude_of : Epoch → ℤ → Options → ℕ
longitude_of e body o = cond (is_sun body) (sun_longitude o.edition e) 0

-- ---- seen from a position
-- Greenwich sidereal time: the Earth rotates by universal time, Δψ and ε go by ephemeris time
unfoldable pub sidereal_at : Epochs → ℕ
sidereal_at es =
    let e = es.ephemeris in
    let a = arguments_of e in
    sidereal_time es.universal (dpsi a e.q) (epsilon a e.q)

unfoldable pub view_at : Epochs → Position → List ℤ → View
view_at es p d = view_from (pos (sidereal_at es)) p d

-- the angles of a view, with s
abbrev pub answered : View → ℕ → ShotValues
answered v s =
    let a = seen v in
    record { refusal = 0; azimuth = a.azimuth; zenith_distance = a.zenith_distance; hour_angle = a.hour_angle; longitude = s }

unfoldable pub body_view : Epochs → Position → ℤ → Options → View
body_view es p body o = view_at es p (direction_of es.ephemeris body o)

-- what is asked at an accepted instant, in the stated order: of the body, of the options, and of the view from a position
abbrev pub tests_from : Epochs → Position → ℤ → Options → List Test
tests_from es p body o = test (is_body body) 6 ∷ test (is_edition o.edition) 19 ∷ sight_tests (body_view es p body o)

-- before that, of the site
abbrev pub tests_at : Epochs → Site → ℤ → Options → List Test
tests_at es site body o = site_tests site ++ tests_from es (position site) body o

abbrev pub answer_from : Epochs → Position → ℤ → Options → ShotValues
answer_from es p body o = answered (body_view es p body o) (longitude_of es.ephemeris body o)

-- ---- the shot with plain numbers
-- its tests in the stated order: of the instant, 2 to 4 and 17, and then those above, 5, 6, 19, 7 and 8
abbrev pub tests : Query → List Test
tests x = let n = x.numbers in instant_tests n.time ++ tests_at (instant_epochs n.time) n.site n.body x.options

-- what it gives where they all pass
abbrev pub answer_of : Query → ShotValues
answer_of x = let n = x.numbers in answer_from (instant_epochs n.time) (position n.site) n.body x.options

unfoldable pub shot : Query → ShotValues
shot x = decided (tests x) (answer_of x) refused

-- ---- the shot from a card: that every field is confirmed, 1, and then as with its numbers
abbrev pub card_query : Card → Options → Query
card_query c o = query (numbers_of (numbers_in c)) o

unfoldable pub shot_from_card : Card → Options → ShotValues
shot_from_card c o = decided (card_tests c ++ tests (card_query c o)) (answer_of (card_query c o)) refused
