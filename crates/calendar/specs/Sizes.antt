-- How large N and the epochs of an instant are, so that no step of the theory leaves 64 bits.
use Rattle.std.specs.Prelude.{ℤ, pos, ◌≤ℤ◌}

-- N of an accepted instant, without ΔT: from 1976-01-01 with DUT1 −900 to the leap second of 2049-12-31 with DUT1 900
abbrev pub UniversalSpan : ℤ → Type 0
UniversalSpan n = (pos 2_398_334_399_100 ≤ℤ n) × (n ≤ℤ pos 4_733_640_001_899)
