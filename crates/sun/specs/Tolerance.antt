-- Demand 3, and document 02, requests 5 and 7 (RULES.md, "The Sun", demand 3): how many units the apparent longitude of an edition and its polynomial
-- longitude may be apart.
use Rattle.std.specs.Prelude.{cond, List, ◌++◌, ℕ, ◌+◌, ◌-◌, ◌*◌, ◌/◌, ℤ, pos}
use Rattle.exact.specs.Largest.{greatest}
use Rattle.sine_table.specs.Table.{R}
use Rattle.sine.specs.SineContract.{sine_tolerance}
use Rattle.epoch.specs.Epoch.{first_millionth, last_millionth}
use Rattle.series.specs.Term.{Term}
use Rattle.series.specs.Sum.{amplitudes}
use Rattle.frame.specs.Nutation.{dpsi_terms}
use Rattle.sun.specs.Series.{full_terms}
use Rattle.sun.specs.Editions.{is_short}

-- the largest sum of a list's amplitudes without their signs, over every q that an accepted instant has
unfoldable pub largest_sum : List Term → ℕ
largest_sum terms = greatest (λ n. amplitudes terms (pos n)) first_millionth (last_millionth - first_millionth)

-- n / d, rounded up
abbrev pub upward : ℕ → ℕ → ℕ
upward n d = (n + (d - 1)) / d

-- request 7's bound of a list of terms, those of Δψ included: their largest sum times the sine's tolerance over R, rounded up, and 2 units more
unfoldable pub bound_of : List Term → ℕ
bound_of terms = upward (largest_sum (terms ++ dpsi_terms) * sine_tolerance) R + 2

-- of an edition: the short one keeps request 5's figure, and the other has that bound, which comes to 5 (law `full-bound-is`)
abbrev pub longitude_tolerance : ℤ → ℕ
longitude_tolerance edition = cond (is_short edition) 4 (bound_of full_terms)
