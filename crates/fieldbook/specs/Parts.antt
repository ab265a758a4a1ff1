-- The parts of a shot. A body's sight from a position is what a function of its own owes; the others are the steps of the shot at an accepted instant, each
-- with the tests that are left from there.
use Rattle.std.specs.Prelude.{ℕ, ℤ}
use Rattle.refusal.specs.Tests.{decided}
use Rattle.calendar.specs.declared.Epochs.{Epochs}
use Rattle.site.specs.Site.{position}
use Rattle.site.specs.declared.Site.{Site}
use Rattle.site.specs.Site.{Position}
use Rattle.horizon.specs.Horizon.{View, sight_tests}
use Rattle.fieldbook.specs.Shot.{ShotValues, refused, answered, sun_longitude, sun_direction, polaris_direction, longitude_of, view_at, body_view, tests_from, tests_at, answer_from}
use Rattle.fieldbook.specs.declared.Options.{Options}

-- a view's refusals, or its angles with s
abbrev pub sighted_shot : View → ℕ → ShotValues
sighted_shot v s = decided (sight_tests v) (answered v s) refused

unfoldable pub sun_shot : ℤ → Epochs → Position → ShotValues
sun_shot edition es p = sighted_shot (view_at es p (sun_direction edition es.ephemeris)) (sun_longitude edition es.ephemeris)

unfoldable pub polaris_shot : Epochs → Position → ShotValues
polaris_shot es p = sighted_shot (view_at es p (polaris_direction es.ephemeris)) 0

-- of a body and with options that are known
unfoldable pub shot_of : Epochs → Position → ℤ → Options → ShotValues
shot_of es p body o = sighted_shot (body_view es p body o) (longitude_of es.ephemeris body o)

-- of any
unfoldable pub shot_from : Epochs → Position → ℤ → Options → ShotValues
shot_from es p body o = decided (tests_from es p body o) (answer_from es p body o) refused

unfoldable pub shot_at : Epochs → Site → ℤ → Options → ShotValues
shot_at es site body o = decided (tests_at es site body o) (answer_from es (position site) body o) refused
