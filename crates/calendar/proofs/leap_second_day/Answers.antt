-- Each test is one of `leap_second_day`'s.
use Rattle.std.proofs.Common.{arith}
use Rattle.std.proofs.lemmas.Bool.Decides.{nat_tests}
use Rattle.calendar.specs.Time.{leap_second_day}
use Rattle.calendar.proofs.leap_second_day.Goals as goal

pub returns-then-day-eq30 : goal.returns-then-day-eq30
unfolding leap_second_day
returns-then-day-eq30 c = grind (arith, nat_tests)

pub returns-then-month-eq12 : goal.returns-then-month-eq12
unfolding leap_second_day
returns-then-month-eq12 c = grind (arith, nat_tests)

pub returns-else-month-eq12 : goal.returns-else-month-eq12
unfolding leap_second_day
returns-else-month-eq12 c = grind (arith, nat_tests)
