-- Demand 3, second half: the short way round, s and the polynomial longitude of an accepted instant are no more units apart than its edition's tolerance
-- says, whatever the aberration: 4 in the short edition, and in the full one request 7's bound, which comes to 5 (EditionBound.antt). The figure of the
-- short edition follows by computation from the lists of terms and the sine's tolerance: the law gives 3 units for the first sum and 1 for Δψ, and so 4
-- and nothing less. Another list of terms, or another table, changes the figure here and no proof. No bound below 2 holds:
-- `two-apart` (crate worked_longitudes) is the instant that comes as near to the bound as any known, 1994-03-22 13:19:32.701 with DUT1 and ΔT 0.
use mathlib.Core.Path.{◌≡◌, subst⁻¹, ◌∙◌}
use mathlib.Core.Bool.{Bool, true, false, cond}
use mathlib.Core.List.{List}
use Prim.Native.Nat.{ℕ, ◌+◌, ◌*◌, ◌≤◌, ◌<◌}
use native.Mathlib.Nat.{le_trans, mul-le-mul_right}
use lib.Dec.{lit≤}
use lib.IntN.{ℤ, nat_abs, ◌+ℤ◌, ◌-ℤ◌}
use Rattle.exact.specs.Reduction.{turn, reduced, short_way}
use Rattle.exact.specs.Division.{floor_div, nearest_div}
use Rattle.secular.specs.Sizes.{most_millionths, most}
use Rattle.sine_table.specs.Table.{R}
use Rattle.sine.specs.SineContract.{sine_tolerance}
use Rattle.epoch.specs.Sizes.{InSpan}
use Rattle.epoch.specs.Epoch.{Epoch}
use Rattle.epoch.proofs.Sizes.{q-range, q-size}
use Rattle.calendar.specs.Time.{instant_of, accepted}
use Rattle.calendar.specs.declared.CivilTime.{CivilTime}
use Rattle.calendar.specs.declared.Epochs.{Epochs}
use Rattle.calendar.proofs.AcceptedRange.{accepted-in-span}
use Rattle.arguments.specs.PrintedArguments.{arguments_of, full_arguments_of}
use Rattle.series.specs.Term.{Term}
use Rattle.series.specs.Sum.{amplitudes, weights}
use Rattle.series.proofs.Sums.{amplitudes-weights}
use Rattle.frame.specs.Nutation.{dpsi, dpsi_terms}
use Rattle.sun.specs.Series.{short_terms, full_terms}
use Rattle.sun.specs.Editions.{is_short}
use Rattle.sun.specs.Tolerance.{upward, bound_of, longitude_tolerance}
use Rattle.sun.specs.Longitude.{mean_longitude, first_sum, longitude_by, polynomial_by, apparent_longitude, polynomial_longitude, IsLongitude}
use Rattle.sun.proofs.Editions.{longitude-is}
use Rattle.sun.proofs.EditionBound.{apart, upward-holds, within-bound}

-- the whole units that a list's weights and the sine's tolerance come to, rounded up
figure : List Term → ℕ
figure ts = upward (weights ts * sine_tolerance) R

figure-holds : (ts : List Term) (q : ℤ) → nat_abs q ≤ most_millionths → amplitudes ts q * sine_tolerance ≤ R * figure ts
unfolding figure
figure-holds ts q h = le_trans (mul-le-mul_right sine_tolerance (amplitudes-weights ts q h)) (upward-holds (weights ts * sine_tolerance))

-- of any list of terms
within-figures : (terms : List Term) (aberration : ℤ) (arguments : List ℤ) (q : ℤ) → nat_abs q ≤ most_millionths
    → short_way (longitude_by terms aberration arguments q) (polynomial_by terms aberration arguments q) ≤ figure terms + figure dpsi_terms
within-figures terms aberration arguments q h =
    apart terms aberration arguments q (figure terms) (figure dpsi_terms) (figure-holds terms q h) (figure-holds dpsi_terms q h)

figures : figure short_terms + figure dpsi_terms ≤ 4
unfolding figure weights most nearest_div floor_div
figures = lit≤ tt

-- of either edition
pub longitude-within-tolerance : (edition aberration : ℤ) (e : Epoch) → InSpan e
    → short_way (apparent_longitude edition aberration e) (polynomial_longitude edition aberration e) ≤ longitude_tolerance edition
unfolding apparent_longitude polynomial_longitude
longitude-within-tolerance edition aberration e h = by (is_short edition)
  where
    by : (b : Bool) → let ts = cond b short_terms full_terms in let a = cond b (arguments_of e) (full_arguments_of e) in
        short_way (longitude_by ts aberration a e.q) (polynomial_by ts aberration a e.q) ≤ cond b 4 (bound_of full_terms)
    by true = le_trans (within-figures short_terms aberration (arguments_of e) e.q (q-size h)) figures
    by false = within-bound full_terms aberration (full_arguments_of e) e.q (q-range h)

-- so that a number that is the longitude by the arguments that both share is all that is owed of it
pub is-longitude : (edition k : ℤ) (e : Epoch) (r : ℕ) → InSpan e → r ≡ reduced (mean_longitude (arguments_of e) +ℤ first_sum edition e +ℤ dpsi (arguments_of e) e.q -ℤ k)
    → r < turn → IsLongitude edition k e r
is-longitude edition k e r h i l =
    let is = i ∙ longitude-is edition k e in
    record {
      value = is;
      range = l;
      near = subst⁻¹ (λ (r : ℕ). short_way r (polynomial_longitude edition k e) ≤ longitude_tolerance edition) is (longitude-within-tolerance edition k e h);
    }

-- the theorem, for every accepted instant, at its epoch of ephemeris time, N with ΔT, any edition and any aberration
pub accepted-longitude-within-tolerance : (edition aberration : ℤ) (t : CivilTime) (es : Epochs) → instant_of t ≡ accepted es
    → let e = es.ephemeris in short_way (apparent_longitude edition aberration e) (polynomial_longitude edition aberration e) ≤ longitude_tolerance edition
accepted-longitude-within-tolerance edition aberration t es h = longitude-within-tolerance edition aberration es.ephemeris (accepted-in-span t es h).1
