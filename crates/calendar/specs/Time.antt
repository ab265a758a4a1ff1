-- Document 01, "The card" (fields 4 to 7), "Time" and refusals 2, 3 and 4; document 02, request 3 (field 11, refusal 17) (RULES.md, "Fields", "Time" and
-- "Refusals"): the instant that eight numbers name. Hours, minutes and the rest are looked at only with a date, and only where they are not negative:
-- `nat_abs` is then the number itself.
use Rattle.std.specs.Prelude.{Bool, cond, ◌&&◌, ◌||◌, List, [], ◌∷◌, ℕ, ◌+◌, ◌*◌, eqb, ℤ, pos, neg_ℤ, nat_abs, ◌+ℤ◌, ◌-ℤ◌, Result, Ok, Err}
use Rattle.refusal.specs.RefusalNumbers.{number_of}
use Rattle.refusal.specs.Tests.{Test, test, decided}
use Rattle.refusal.specs.declared.Refusal.{Refusal}
use Rattle.exact.specs.Range.{between}
use Rattle.epoch.specs.Epoch.{epoch, epoch_of}
use Rattle.calendar.specs.Date.{is_date, day_count}
use Rattle.calendar.specs.declared.CivilTime.{CivilTime}
use Rattle.calendar.specs.declared.Epochs.{Epochs}

-- 30 June or 31 December, on which the last minute may have a leap second
unfoldable pub leap_second_day : ℕ → ℕ → Bool
leap_second_day month day = (eqb month 6 && eqb day 30) || (eqb month 12 && eqb day 31)

-- the last millisecond of a minute: 59,999, and 60,999 at 23:59 on such a day
unfoldable pub last_millisecond : ℕ → ℕ → ℕ → ℕ → ℕ
last_millisecond month day hour minute = cond (eqb hour 23 && (eqb minute 59 && leap_second_day month day)) 60_999 59_999

-- hour, minute and millisecond of the minute are allowed on a date
unfoldable pub is_time : ℤ → ℤ → ℤ → ℤ → ℤ → Bool
is_time month day hour minute millisecond =
    between (pos 0) hour (pos 23)
    && (between (pos 0) minute (pos 59)
    && between (pos 0) millisecond (pos (last_millisecond (nat_abs month) (nat_abs day) (nat_abs hour) (nat_abs minute))))

-- the millisecond of the day; in a leap second it runs on past 86,400,000
unfoldable pub day_millisecond : ℤ → ℤ → ℤ → ℕ
day_millisecond hour minute millisecond = (nat_abs hour * 60 + nat_abs minute) * 60_000 + nat_abs millisecond

-- field 7, in ms
unfoldable pub is_dut1 : ℤ → Bool
is_dut1 dut1 = between (neg_ℤ (pos 900)) dut1 (pos 900)

-- field 11, ΔT, which is ET − UT1, in ms
unfoldable pub is_delta_t : ℤ → Bool
is_delta_t delta_t = between (pos 0) delta_t (pos 120_000)

-- 01's N, ms since 1900 January 0.5, of D, the millisecond of the day and DUT1
unfoldable pub since1900 : ℕ → ℕ → ℤ → ℤ
since1900 day ms dut1 = pos (86_400_000 * day) -ℤ pos 43_200_000 +ℤ pos ms +ℤ dut1

-- N of the numbers of an instant
unfoldable pub instant : CivilTime → ℤ
instant t =
    since1900 (day_count (nat_abs t.year) (nat_abs t.month) (nat_abs t.day)) (day_millisecond t.hour t.minute t.millisecond) t.dut1

-- request 3: the two epochs of N and ΔT. Sidereal time's own polynomial goes by N, all else by N with ΔT; each has the q of its own milliseconds
abbrev pub epochs_of : ℤ → ℤ → Epochs
epochs_of n delta_t = record { universal = epoch_of n; ephemeris = epoch_of (n +ℤ delta_t) }

-- those that eight numbers name
abbrev pub instant_epochs : CivilTime → Epochs
instant_epochs t = epochs_of (instant t) t.delta_t

-- what the eight numbers are answered with: 0 with the epochs, or a refusal's number with zeros
pub record InstantValues : Type 0 where
  pub refusal : ℕ
  pub epochs : Epochs

abbrev pub refused : ℕ → InstantValues
refused k = record { refusal = k; epochs = record { universal = epoch (pos 0) (pos 0); ephemeris = epoch (pos 0) (pos 0) } }

abbrev pub accepted : Epochs → InstantValues
accepted es = record { refusal = 0; epochs = es }

-- what is asked of an instant, in the stated order
abbrev pub instant_tests : CivilTime → List Test
instant_tests t =
    test (is_date t.year t.month t.day) 2
    ∷ test (is_time t.month t.day t.hour t.minute t.millisecond) 3
    ∷ test (is_dut1 t.dut1) 4
    ∷ test (is_delta_t t.delta_t) 17
    ∷ []

unfoldable pub instant_of : CivilTime → InstantValues
instant_of t = decided (instant_tests t) (accepted (instant_epochs t)) refused

-- the number and values of each case of the code's answer
abbrev pub instant_values : Result Epochs Refusal → InstantValues
instant_values (Ok es) = accepted es
instant_values (Err r) = refused (number_of r)
