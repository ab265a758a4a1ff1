-- Three magnitudes, whose sum is bounded by what is required.
use Rattle.std.proofs.Common.{arith, rules}
use mir.Facts.{to_z-of_z}
use Rattle.calendar.specs.Time.{day_millisecond}
use Rattle.calendar.proofs.AcceptedRange.{Fit}
use Rattle.calendar.proofs.CivilTime.day_millisecond.Goals as goal

pub overflow_mul-result : goal.overflow_mul-result
unfolding day_millisecond
overflow_mul-result c =
    let f : Fit c.args.self = search rules in
    let hour = simp (to_z-of_z, f.hour) at c.magnitude.ensures in record { fits = omega arith }

pub overflow_add-result : goal.overflow_add-result
unfolding day_millisecond
overflow_add-result c =
    let f : Fit c.args.self = search rules in
    let hour = simp (to_z-of_z, f.hour) at c.magnitude.ensures in
    let minute = simp (to_z-of_z, f.minute) at c.magnitude-2.ensures in record { fits = omega arith }

pub overflow_mul-result-2 : goal.overflow_mul-result-2
unfolding day_millisecond
overflow_mul-result-2 c =
    let f : Fit c.args.self = search rules in
    let hour = simp (to_z-of_z, f.hour) at c.magnitude.ensures in
    let minute = simp (to_z-of_z, f.minute) at c.magnitude-2.ensures in record { fits = omega arith }

pub overflow_add-result-2 : goal.overflow_add-result-2
unfolding day_millisecond
overflow_add-result-2 c =
    let f : Fit c.args.self = search rules in
    let hour = simp (to_z-of_z, f.hour) at c.magnitude.ensures in
    let minute = simp (to_z-of_z, f.minute) at c.magnitude-2.ensures in
    let millisecond = simp (to_z-of_z, f.millisecond) at c.magnitude-3.ensures in record { fits = omega arith }

pub returns : goal.returns
unfolding day_millisecond
returns c =
    let f : Fit c.args.self = search rules in
    let hour = simp (to_z-of_z, f.hour) at c.magnitude.ensures in
    let minute = simp (to_z-of_z, f.minute) at c.magnitude-2.ensures in
    let millisecond = simp (to_z-of_z, f.millisecond) at c.magnitude-3.ensures in omega arith
