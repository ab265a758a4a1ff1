-- Each test is one of `is_date`'s.
use mathlib.Core.Path.{◌≡◌, sym, ap, ap₂, ◌∙◌}
use mathlib.Core.Bool.{◌&&◌}
use Prim.Native.Nat.{ℕ}
use native.Mathlib.Omega.{arith}
use lib.IntN.{pos}
use mir.Facts.{to_z-of_z}
use mir.Syntax.{w64}
use mir.Val.{SFits}
use Rattle.exact.specs.Range.{between}
use Rattle.exact.proofs.Machine.{and-true, between-nat}
use Rattle.calendar.specs.Date.{month_length, is_date}
use Rattle.calendar.proofs.AcceptedRange.{all-three, not-all}
use Rattle.calendar.proofs.is_date.Goals.{Joined-between, then-between, else-between}
use Rattle.calendar.proofs.is_date.Goals as goal

-- what the tests of the year and of the month come to
both : (c : Joined-between) → c.if-between.value ≡ (between (pos 1976) c.args.year (pos 2049) && between (pos 1) c.args.month (pos 12))
both c =
    let year = simp (to_z-of_z, c.ranges.year) at c.between.ensures in
    elim c.if-between.branch [
      | then-between w ↦ let month = simp (to_z-of_z, c.ranges.month) at w.between-then-between.ensures in rw (← year, w.if-between.true) (w.value-is ∙ month)
      | else-between w ↦ rw (← year, w.if-between.false) (w.value-is ∙ w.if-between.false)
    ]

pub month_length-requires : goal.month_length-requires
month_length-requires c =
    let a = c.args in
    let e = sym (both (goal.at.month_length-requires c).Joined-between) ∙ c.if-between-2.true in
    let range = between-nat 1 12 a.month (and-true (between (pos 1976) a.year (pos 2049)) (between (pos 1) a.month (pos 12)) e).1 in
    let month = simp (to_z-of_z, c.ranges.month) at c.magnitude-then-between-2.ensures in omega arith

pub returns-then-between-2 : goal.returns-then-between-2
unfolding is_date
returns-then-between-2 c =
    let a = c.args in
    let r = c.ranges in
    let y = simp (to_z-of_z, r.year) at c.magnitude.ensures in
    let m = simp (to_z-of_z, r.month) at c.magnitude-then-between-2.ensures in
    let length = c.month_length.ensures.0 ∙ ap₂ month_length y m in
    let f : SFits w64 (pos c.month_length.result) = record { sfits = omega (arith, c.month_length.ensures.1) } in
    let day = (simp (to_z-of_z, r.day, f) at c.between-then-between-2.ensures) ∙ ap (λ (n : ℕ). between (pos 1) a.day (pos n)) length in
    let e = sym (both (goal.at.returns-then-between-2 c).Joined-between) ∙ c.if-between-2.true in
    day ∙ all-three (between (pos 1976) a.year (pos 2049)) (between (pos 1) a.month (pos 12)) _ e

pub returns-else-between-2 : goal.returns-else-between-2
unfolding is_date
returns-else-between-2 c =
    let a = c.args in
    let e = sym (both (goal.at.returns-else-between-2 c).Joined-between) ∙ c.if-between-2.false in
    c.if-between-2.false ∙ not-all (between (pos 1976) a.year (pos 2049)) (between (pos 1) a.month (pos 12)) _ e
