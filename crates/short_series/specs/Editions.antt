-- Document 02, request 8 (RULES.md, "What the short edition leaves out"): what the eight numbers of an instant are answered with, in units of 0.0001″.
use Rattle.std.specs.Prelude.{List, ℕ, ℤ, pos, Result, Ok, Err}
use Rattle.refusal.specs.RefusalNumbers.{number_of}
use Rattle.refusal.specs.declared.Refusal.{Refusal}
use Rattle.refusal.specs.Tests.{decided}
use Rattle.exact.specs.Nth.{nth}
use Rattle.exact.specs.Reduction.{short_way}
use Rattle.epoch.specs.Epoch.{Epoch}
use Rattle.calendar.specs.Time.{instant_epochs, instant_tests}
use Rattle.calendar.specs.declared.CivilTime.{CivilTime}
use Rattle.sun.specs.Longitude.{aberration, apparent_longitude}
use Rattle.sun.specs.ShortCost.{short_cost}
use Rattle.short_series.specs.declared.Comparison.{Comparison}

-- ---- what is asked
-- fields 1 to 7 and 11, in this order and the units of RULES.md, "Fields"
abbrev pub number_count : ℕ
number_count = 8

abbrev pub time_of : List ℤ → CivilTime
time_of l = record {
  year = nth l 0;
  month = nth l 1;
  day = nth l 2;
  hour = nth l 3;
  minute = nth l 4;
  millisecond = nth l 5;
  dut1 = nth l 6;
  delta_t = nth l 7;
}

-- ---- what is answered
-- the refusal's number, 0 where there is none; s by the short edition and by the full one; how far they are apart the short way round; and the sum of the
-- amplitudes that the short one drops
pub record EditionsValues : Type 0 where
  pub refusal : ℕ
  pub short : ℕ
  pub full : ℕ
  pub apart : ℕ
  pub bound : ℕ

-- a refusal has zeros
abbrev pub refused : ℕ → EditionsValues
refused k = record { refusal = k; short = 0; full = 0; apart = 0; bound = 0 }

-- the number and values of the code's answer
abbrev pub comparison_values : Comparison → EditionsValues
comparison_values c = record { refusal = 0; short = c.short; full = c.full; apart = c.apart; bound = c.bound }

abbrev pub editions_values : Result Comparison Refusal → EditionsValues
editions_values (Ok c) = comparison_values c
editions_values (Err r) = refused (number_of r)

-- at an epoch of ephemeris time: the bound has its q too
unfoldable pub compared_at : Epoch → EditionsValues
compared_at e =
    let short = apparent_longitude (pos 1) aberration e in
    let full = apparent_longitude (pos 2) aberration e in
    record { refusal = 0; short = short; full = full; apart = short_way short full; bound = short_cost e.q }

-- the tests are those of an instant, 2, 3, 4 and 17
unfoldable pub editions : CivilTime → EditionsValues
editions t = decided (instant_tests t) (compared_at (instant_epochs t).ephemeris) refused
