-- Each test is one of `is_time`'s.
use Rattle.std.proofs.Common.{arith, rules}
use mathlib.Core.Path.{◌≡◌, sym, ap, ◌∙◌}
use mathlib.Core.Bool.{◌&&◌}
use Prim.Native.Nat.{ℕ}
use lib.IntN.{pos, nat_abs}
use mir.Facts.{to_z-of_z}
use mir.Syntax.{w64}
use mir.Val.{SFits}
use Rattle.exact.specs.Range.{between}
use Rattle.calendar.specs.Time.{last_millisecond, is_time}
use Rattle.calendar.proofs.AcceptedRange.{Fit, all-three, not-all}
use Rattle.calendar.proofs.CivilTime.is_time.Goals.{Joined-between, then-between, else-between}
use Rattle.calendar.proofs.CivilTime.is_time.Goals as goal

-- what the tests of the hour and of the minute come to
both : (c : Joined-between) → c.if-between.value ≡ (between (pos 0) c.args.self.hour (pos 23) && between (pos 0) c.args.self.minute (pos 59))
both c =
    let r : Fit c.args.self = search rules in
    let hour = simp (to_z-of_z, r.hour) at c.between.ensures in
    elim c.if-between.branch [
      | then-between w ↦ let minute = simp (to_z-of_z, r.minute) at w.between-then-between.ensures in rw (← hour, w.if-between.true) (w.value-is ∙ minute)
      | else-between w ↦ rw (← hour, w.if-between.false) (w.value-is ∙ w.if-between.false)
    ]

pub returns-then-between-2 : goal.returns-then-between-2
unfolding is_time
returns-then-between-2 c =
    let a = c.args.self in
    let r : Fit a = search rules in
    let month = simp (to_z-of_z, r.month) at c.magnitude.ensures in
    let day = simp (to_z-of_z, r.day) at c.magnitude-then-between-2.ensures in
    let h = simp (to_z-of_z, r.hour) at c.magnitude-then-between-2-2.ensures in
    let m = simp (to_z-of_z, r.minute) at c.magnitude-then-between-2-3.ensures in
    let last : c.last_millisecond.result ≡ last_millisecond (nat_abs a.month) (nat_abs a.day) (nat_abs a.hour) (nat_abs a.minute) =
    cc (c.last_millisecond.ensures.0, month, day, h, m) in
    let f : SFits w64 (pos c.last_millisecond.result) = record { sfits = omega (arith, c.last_millisecond.ensures.1) } in
    let ms = (simp (to_z-of_z, r.millisecond, f) at c.between-then-between-2.ensures) ∙ ap (λ (n : ℕ). between (pos 0) a.millisecond (pos n)) last in
    let e = sym (both (goal.at.returns-then-between-2 c).Joined-between) ∙ c.if-between-2.true in
    ms ∙ all-three (between (pos 0) a.hour (pos 23)) (between (pos 0) a.minute (pos 59)) _ e

pub returns-else-between-2 : goal.returns-else-between-2
unfolding is_time
returns-else-between-2 c =
    let a = c.args.self in
    let e = sym (both (goal.at.returns-else-between-2 c).Joined-between) ∙ c.if-between-2.false in
    c.if-between-2.false ∙ not-all (between (pos 0) a.hour (pos 23)) (between (pos 0) a.minute (pos 59)) _ e
