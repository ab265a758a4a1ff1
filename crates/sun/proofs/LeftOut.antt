-- What the short edition leaves out: of 1.882″ − 0.016″T the second part, the fourth long period term, and Mars, Jupiter and Saturn
use mathlib.Core.Path.{◌≡◌, refl}
use mathlib.Core.List.{List, [], ◌∷◌, map}
use lib.IntN.{ℤ, pos}
use Rattle.exact.specs.Decimal.{plus, minus, arc_seconds}
use Rattle.exact.specs.Division.{floor_div, nearest_div}
use Rattle.arguments.specs.PrintedArguments.{P2, P4}
use Rattle.series.specs.Term.{Term}
use Rattle.series.specs.Notation.{term, sine, none}
use Rattle.series.specs.Notation as Notation
use Rattle.series.specs.Compared.{same_angle, same_amplitude, counterpart, others, change, added, changes, restored}
use Rattle.sun.specs.Series.{short_terms, planets, full_terms}

abbrev pub second : ℤ → Term
second c1 = term (arc_seconds (plus 1_882 3)) c1 (pos 0) (pos 0) (Notation.added 1 P2) none none

abbrev pub lacking : List Term
lacking = sine (plus 266 3) (Notation.added 1 P4) none none ∷ planets

pub left_out : changes short_terms full_terms ≡ change (second (pos 0)) (second (arc_seconds (minus 16 3))) ∷ map added lacking
unfolding changes counterpart others same_angle same_amplitude nearest_div floor_div
left_out = refl

-- with it the short list is the full one: nothing changes any more
pub together : changes (restored short_terms (changes short_terms full_terms)) full_terms ≡ []
unfolding restored changes counterpart others same_angle same_amplitude nearest_div floor_div
together = refl
