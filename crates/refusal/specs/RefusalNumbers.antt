-- Document 01, "Refusal numbers", and document 02 (RULES.md, "Refusals"): the number of each of the code's refusals. Above this file, specs/ speak of the numbers alone; 0
-- stands for no refusal.
use Rattle.std.specs.Prelude.{ℕ, Result, Ok, Err}
use Rattle.refusal.specs.declared.Refusal.{Refusal}
use Rattle.refusal.specs.declared.Refusal.TheVariants.{NotConfirmed, NoDate, NoTime, NoDut1, NoPosition, NoBody, BelowHorizon, NearZenith, NoField, EmptyField, NoRoom, NotRead, TooLarge, Malformed, NoAngle, NoList, NoDeltaT, NothingToUndo, NoEdition}

abbrev pub number_of : Refusal → ℕ
number_of NotConfirmed = 1
number_of NoDate = 2
number_of NoTime = 3
number_of NoDut1 = 4
number_of NoPosition = 5
number_of NoBody = 6
number_of BelowHorizon = 7
number_of NearZenith = 8
number_of NoField = 9
number_of EmptyField = 10
number_of NoRoom = 11
number_of NotRead = 12
number_of TooLarge = 13
number_of Malformed = 14
number_of NoAngle = 15
number_of NoList = 16
number_of NoDeltaT = 17
number_of NothingToUndo = 18
number_of NoEdition = 19

-- the largest of them
abbrev pub largest_number : ℕ
largest_number = 19

-- of a call that gives nothing but a refusal: 0 where it is accepted
abbrev pub verdict_number : Result Unit Refusal → ℕ
verdict_number (Ok ok) = 0
verdict_number (Err r) = number_of r
