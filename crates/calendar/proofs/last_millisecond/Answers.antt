-- Each test is one of `last_millisecond`'s.
use Rattle.std.proofs.Common.{arith}
use Rattle.std.proofs.lemmas.Bool.Decides.{nat_tests}
use Rattle.calendar.specs.Time.{last_millisecond}
use Rattle.calendar.proofs.last_millisecond.Goals as goal

pub returns-then-leap_second_day : goal.returns-then-leap_second_day
unfolding last_millisecond
returns-then-leap_second_day c = grind (arith, nat_tests)

pub returns-else-hour-eq23 : goal.returns-else-hour-eq23
unfolding last_millisecond
returns-else-hour-eq23 c = grind (arith, nat_tests)
