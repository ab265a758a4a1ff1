-- One lemma over plain numbers (proofs/AcceptedRange.antt) says that each step fits, and what the sum is.
use Rattle.std.proofs.Common.{arith, rules}
use mathlib.Core.Path.{◌≡◌, ap₂, ◌∙◌}
use mathlib.Core.Bool.{true}
use Prim.Native.Nat.{ℕ, ◌+◌, ◌*◌, ◌≤◌}
use lib.IntN.{pos, nat_abs}
use mir.Facts.{to_z-of_z}
use Rattle.calendar.specs.Date.{is_date, day_count}
use Rattle.calendar.specs.Time.{is_time, day_millisecond, is_dut1, since1900, instant}
use Rattle.calendar.specs.declared.CivilTime.{CivilTime}
use Rattle.calendar.proofs.AcceptedRange.{Fit, Sizes, sizes, date-range, time-range, dut1-le}
use Rattle.calendar.proofs.CivilTime.instant.Goals as goal

abbrev day_of : CivilTime → ℕ
day_of t = day_count (nat_abs t.year) (nat_abs t.month) (nat_abs t.day)

abbrev ms_of : CivilTime → ℕ
ms_of t = day_millisecond t.hour t.minute t.millisecond

abbrev Accepted : CivilTime → Type 0
Accepted t = (is_date t.year t.month t.day ≡ true) × (is_time t.month t.day t.hour t.minute t.millisecond ≡ true) × (is_dut1 t.dut1 ≡ true)

-- the two numbers that the code works out, and the sums of them
module _ (t : CivilTime) (h : Accepted t) (day ms : ℕ) (d : day ≡ day_of t) (m : ms ≡ ms_of t) where
  known : Sizes (pos (86_400_000 * day + ms)) (pos (86_400_000 * day)) ms t.dut1
  known =
      let r = date-range t.year t.month t.day h.0 in
      let s = time-range t.month t.day t.hour t.minute t.millisecond h.1 in
      sizes day ms t.dut1 (omega arith) (omega arith) (omega arith) (dut1-le t.dut1 h.2)

  fits : (86_400_000 * day ≤ 5_000_000_000_000) × (ms ≤ 86_400_999)
  fits = let r = date-range t.year t.month t.day h.0 in let s = time-range t.month t.day t.hour t.minute t.millisecond h.1 in (omega arith, omega arith)

pub day_millisecond-ms-requires : goal.day_millisecond-ms-requires
day_millisecond-ms-requires c = let t = c.args.self in time-range t.month t.day t.hour t.minute t.millisecond c.requires.1

pub overflow_mul-result : goal.overflow_mul-result
overflow_mul-result c =
    let f : Fit c.args.self = search rules in
    let d = simp (to_z-of_z, f.year, f.month, f.day) at c.day_count-day.ensures in
    record { fits = omega (arith, fits c.args.self c.requires _ _ d c.day_millisecond-ms.ensures) }

pub overflow_add-result : goal.overflow_add-result
overflow_add-result c =
    let f : Fit c.args.self = search rules in
    let d = simp (to_z-of_z, f.year, f.month, f.day) at c.day_count-day.ensures in
    record { fits = omega (arith, fits c.args.self c.requires _ _ d c.day_millisecond-ms.ensures) }

pub overflow_cast-result : goal.overflow_cast-result
overflow_cast-result c =
    let f : Fit c.args.self = search rules in
    let d = simp (to_z-of_z, f.year, f.month, f.day) at c.day_count-day.ensures in (known c.args.self c.requires _ _ d c.day_millisecond-ms.ensures).0

pub overflow_sub-result : goal.overflow_sub-result
overflow_sub-result c =
    let f : Fit c.args.self = search rules in
    let d = simp (to_z-of_z, f.year, f.month, f.day) at c.day_count-day.ensures in
    let k = known c.args.self c.requires _ _ d c.day_millisecond-ms.ensures in simp (to_z-of_z, k.0) k.1

pub overflow_add-result-2 : goal.overflow_add-result-2
overflow_add-result-2 c =
    let f : Fit c.args.self = search rules in
    let d = simp (to_z-of_z, f.year, f.month, f.day) at c.day_count-day.ensures in
    let k = known c.args.self c.requires _ _ d c.day_millisecond-ms.ensures in simp (to_z-of_z, k.0, k.1, f.dut1) k.2

pub returns : goal.returns
unfolding since1900 instant
returns c =
    let f : Fit c.args.self = search rules in
    let d = simp (to_z-of_z, f.year, f.month, f.day) at c.day_count-day.ensures in
    let k = known c.args.self c.requires _ _ d c.day_millisecond-ms.ensures in
    simp (to_z-of_z, k.0, k.1, k.2, f.dut1) (k.3 ∙ ap₂ (λ day ms. since1900 day ms c.args.self.dut1) d c.day_millisecond-ms.ensures, k.4)
