-- What the contracts of the C interface cite: the numbers of a shot and of an instant as the book takes them, and the words of each answer as the values
-- that the rules give it (RULES.md, "Refusals", "The horizon", "The mark" and "What the short edition leaves out").
use Rattle.std.specs.Prelude.{List, [], ◌∷◌, ℤ}
use Rattle.calendar.specs.declared.CivilTime.{CivilTime}
use Rattle.lent_card.specs.LentCard.{with_card}
use Rattle.fieldbook.specs.Shot.{ShotValues, refused, numbers_of, shot_from_card}
use Rattle.fieldbook.specs.declared.Numbers.{Numbers}
use Rattle.fieldbook.specs.declared.Options.{Options}
use Rattle.pointing.specs.Pointing.{PointingValues}
use Rattle.short_series.specs.Editions.{time_of, EditionsValues}
use Rattle.spread.specs.Spread.{ChoiceValues}
use Rattle.capi.specs.declared.shots.ShotAnswer.{ShotAnswer}
use Rattle.capi.specs.declared.pointings.PointingAnswer.{PointingAnswer}
use Rattle.capi.specs.declared.choices.ChoiceAnswer.{ChoiceAnswer}
use Rattle.capi.specs.declared.editions.EditionsAnswer.{EditionsAnswer}

-- fields 1 to 11 of the card, in the units of RULES.md, "Fields"
abbrev pub numbers : ℤ → ℤ → ℤ → ℤ → ℤ → ℤ → ℤ → ℤ → ℤ → ℤ → ℤ → Numbers
numbers year month day hour minute millisecond dut1 latitude longitude body delta_t =
    numbers_of (year ∷ month ∷ day ∷ hour ∷ minute ∷ millisecond ∷ dut1 ∷ latitude ∷ longitude ∷ body ∷ delta_t ∷ [])

-- fields 1 to 7 and 11 alone
abbrev pub time : ℤ → ℤ → ℤ → ℤ → ℤ → ℤ → ℤ → ℤ → CivilTime
time year month day hour minute millisecond dut1 delta_t = time_of (year ∷ month ∷ day ∷ hour ∷ minute ∷ millisecond ∷ dut1 ∷ delta_t ∷ [])

-- what the words of an answer say: of a shot, of a pointing, of a choice, of both editions
abbrev pub shot_answer_values : ShotAnswer → ShotValues
shot_answer_values a = record { refusal = a.refusal; azimuth = a.azimuth; zenith_distance = a.zenith_distance; hour_angle = a.hour_angle; longitude = a.longitude }

abbrev pub pointing_answer_values : PointingAnswer → PointingValues
pointing_answer_values a = record { refusal = a.refusal; mark = a.mark }

abbrev pub choice_answer_values : ChoiceAnswer → ChoiceValues
choice_answer_values a = record { refusal = a.refusal; list = a.list; count = a.count }

abbrev pub editions_answer_values : EditionsAnswer → EditionsValues
editions_answer_values a = record { refusal = a.refusal; short = a.short_edition; full = a.full_edition; apart = a.apart; bound = a.bound }

-- the shot from a card in lent words (RULES.md, "A card in words")
abbrev pub card_shot : List ℤ → Options → ShotValues
card_shot ws o = with_card ws (λ c. shot_from_card c o) refused
