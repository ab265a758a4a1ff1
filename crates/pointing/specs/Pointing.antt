-- Document 02, request 1 (RULES.md, "The mark"): what a pointing answers, by its shot and the horizontal angle from the mark to the body, clockwise.
-- Angles are in units of 0.0001″.
use Rattle.std.specs.Prelude.{List, [], ◌∷◌, ℕ, ◌<◌, eqb, ℤ, pos, ◌-ℤ◌, Result, Ok, Err}
use Rattle.refusal.specs.RefusalNumbers.{number_of}
use Rattle.refusal.specs.Tests.{Test, test, decided}
use Rattle.refusal.specs.declared.Refusal.{Refusal}
use Rattle.exact.specs.Reduction.{turn, is_reduced, reduced}
use Rattle.card.specs.declared.Card.{Card}
use Rattle.fieldbook.specs.Shot.{ShotValues, shot, shot_from_card}
use Rattle.fieldbook.specs.declared.Options.{Options}
use Rattle.fieldbook.specs.declared.Query.{Query}

-- the refusal's number, 0 where there is none, and the mark's azimuth, 0 where it is refused
pub record PointingValues : Type 0 where
  pub refusal : ℕ
  pub mark : ℕ

abbrev pub answered : ℕ → PointingValues
answered mark = record { refusal = 0; mark = mark }

abbrev pub refused : ℕ → PointingValues
refused k = record { refusal = k; mark = 0 }

-- the number and the value of each case of the code's answer
abbrev pub pointing_values : Result ℕ Refusal → PointingValues
pointing_values (Ok mark) = answered mark
pointing_values (Err r) = refused (number_of r)

-- the mark's azimuth is below a full circle
abbrev pub MarkReduced : PointingValues → Type 0
MarkReduced v = v.mark < turn

-- the body's azimuth less the horizontal angle, reduced
abbrev pub mark_azimuth : ℕ → ℤ → ℕ
mark_azimuth azimuth angle = reduced (pos azimuth -ℤ angle)

-- that the shot is answered, else its own refusal; and then that the angle as given lies on the circle, 15
abbrev pub pointing_tests : ShotValues → ℤ → List Test
pointing_tests v angle = test (eqb v.refusal 0) v.refusal ∷ test (is_reduced angle) 15 ∷ []

-- by what the shot gave
unfoldable pub pointed : ShotValues → ℤ → PointingValues
pointed v angle = decided (pointing_tests v angle) (answered (mark_azimuth v.azimuth angle)) refused

-- with plain numbers, and from a card
abbrev pub pointing : Query → ℤ → PointingValues
pointing x angle = pointed (shot x) angle

abbrev pub pointing_from_card : Card → Options → ℤ → PointingValues
pointing_from_card c o angle = pointed (shot_from_card c o) angle
