-- How large the Sun's semidiameter is, in units of 0.0001″, and the correction for a limb that it gives: at least 0.2625°, and nearest to the zenith at most
-- 42.5°.
use Rattle.std.specs.Prelude.{ℕ, ℤ, pos, ◌≤ℤ◌}

-- the least sine of a zenith distance that a correction is worked for, in units of 1/R: that of 22′
abbrev pub sine_least : ℕ
sine_least = 6_399_497

pub record SemidiameterSized (s : ℤ) : Type 0 where
  pub least : pos 9_450_000 ≤ℤ s
  pub most : s ≤ℤ pos 9_780_000

pub record CorrectionSized (c : ℤ) : Type 0 where
  pub least : pos 9_450_000 ≤ℤ c
  pub most : c ≤ℤ pos 1_530_000_000
