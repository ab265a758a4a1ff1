-- Document 01, "Numbers to prove together": the numbers that the definitions give, and those that the document states, in its order. (RULES.md,
-- "Time" and "The sine", has the rules.)
use Rattle.std.specs.Prelude.{List, [], ◌∷◌, ℕ, ℤ, pos}
use Rattle.sine.specs.Sine.{Sin}
use Rattle.vector_angle.specs.VectorAngle.{angle}
use Rattle.calendar.specs.Date.{day_count}
use Rattle.calendar.specs.Time.{instant_of}
use Rattle.calendar.specs.declared.CivilTime.{CivilTime}

-- 0h of a date, with DUT1 and ΔT 0
abbrev pub midnight : ℕ → ℕ → ℕ → CivilTime
midnight year month day =
    record { year = pos year; month = pos month; day = pos day; hour = pos 0; minute = pos 0; millisecond = pos 0; dut1 = pos 0; delta_t = pos 0 }

abbrev pub given : List ℤ
given =
    -- D, days
    pos (day_count 1976 1 1)
    ∷ pos (day_count 2000 1 1)
    ∷ pos (day_count 2049 12 31)
    -- N, ms, and q, millionths of a century, at 2000-01-01 0h, DUT1 0
    ∷ (instant_of (midnight 2000 1 1)).epochs.universal.n
    ∷ (instant_of (midnight 2000 1 1)).epochs.universal.q
    -- a leap day that is a date, and one that is refused
    ∷ pos (instant_of (midnight 2000 2 29)).refusal
    ∷ pos (instant_of (midnight 2001 2 29)).refusal
    -- Sin, in 10^-9, of 2.5′, 5′, 30°, 45° and 60°, angles in units of 0.0001″
    ∷ Sin 1_500_000
    ∷ Sin 3_000_000
    ∷ Sin 1_080_000_000
    ∷ Sin 1_620_000_000
    ∷ Sin 2_160_000_000
    -- the angle of a vector, in units of 0.0001″
    ∷ pos (angle (pos 1) (pos 0))
    ∷ pos (angle (pos 0) (pos 1))
    ∷ pos (angle (pos 1) (pos 1))
    ∷ []

abbrev pub stated : List ℤ
stated =
    pos 27_759
    ∷ pos 36_525
    ∷ pos 54_787
    ∷ pos 3_155_716_800_000
    ∷ pos 999_986
    ∷ pos 0
    ∷ pos 2
    ∷ pos 727_221
    ∷ pos 1_454_441
    ∷ pos 500_000_000
    ∷ pos 707_106_781
    ∷ pos 866_025_404
    ∷ pos 1
    ∷ pos 3_240_000_001
    ∷ pos 1_620_000_001
    ∷ []
