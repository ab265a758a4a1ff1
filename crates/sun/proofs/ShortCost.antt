-- What the short series costs, request 8: at every epoch the longitudes of the short edition and of the full one are, the short way round, no further
-- apart than the amplitudes that the short one drops, at the q of that epoch. It is the law of any two lists of terms (`editions-apart`, EditionsApart.antt). The unit more
-- that the request allows is not needed: both first sums are rounded once, and Δψ is the same in both.
-- What is dropped is computed from the two lists (`left_out`, LeftOut.antt), and with it the short list is the full one (`together`). In units it is 227,570 in 24
-- terms that are the same at every q, and what is left out of 1.882″ − 0.016″T (`short-cost-is`).
use mathlib.Core.Path.{◌≡◌, refl, ap, ap₂, ◌∙◌}
use mathlib.Core.List.{map}
use Prim.Native.Nat.{ℕ, ◌+◌, ◌^◌, ◌≤◌}
use native.Mathlib.Omega.{arith}
use lib.Dec.{lit<, lit≤}
use lib.IntN.{ℤ, pos, negsuc, nat_abs, ◌+ℤ◌, ◌-ℤ◌, ◌*ℤ◌}
use Rattle.exact.specs.Division.{floor_div, nearest_div}
use Rattle.exact.specs.Reduction.{short_way}
use Rattle.exact.proofs.Differences.{split, zs}
use Rattle.exact.proofs.Division.{floor-abs}
use Rattle.exact.proofs.Integers.{abs-*-le}
use Rattle.secular.specs.FlooredPolynomial as secular
use Rattle.epoch.specs.Epoch.{last_millionth}
use Rattle.epoch.specs.Epoch.{Epoch}
use Rattle.arguments.specs.Argument.{arguments_by}
use Rattle.arguments.specs.PrintedArguments.{rows, further_rows, arguments_of, full_arguments_of}
use Rattle.series.specs.Sum.{table_sum, amplitudes}
use Rattle.series.specs.Compared.{added, costs}
use Rattle.series.proofs.Compared.{added-costs}
use Rattle.series.proofs.Front.{table-sum-front}
use Rattle.series.proofs.Steady.{steady_sum, varying, amplitudes-split}
use Rattle.series.proofs.Sums.{nothing}
use Rattle.sun.specs.Series.{short_terms, full_terms}
use Rattle.sun.specs.Longitude.{longitude_by, apparent_longitude}
use Rattle.sun.specs.ShortCost.{short_cost}
use Rattle.sun.proofs.EditionsApart.{editions-apart}
use Rattle.sun.proofs.LeftOut.{lacking, left_out}
use Rattle.sun.proofs.Editions.{full-dpsi, full-mean, short-longitudes, full-longitudes}

-- ---- the short edition and the full one, at an epoch
-- by the arguments of the full edition the short one is what it is by its own
shared-sum : (e : Epoch) → table_sum (full_arguments_of e) e.q short_terms ≡ table_sum (arguments_of e) e.q short_terms
unfolding full_arguments_of arguments_of rows
shared-sum e = table-sum-front (arguments_of e) (arguments_by further_rows e) e.q short_terms tt

short-by-all : (aberration : ℤ) (e : Epoch)
    → longitude_by short_terms aberration (full_arguments_of e) e.q ≡ longitude_by short_terms aberration (arguments_of e) e.q
unfolding longitude_by
short-by-all aberration e = rw (full-mean e, full-dpsi e e.q, shared-sum e) refl

-- the theorem
pub short-costs : (aberration : ℤ) (e : Epoch) → short_way (apparent_longitude (pos 1) aberration e) (apparent_longitude (pos 2) aberration e) ≤ short_cost e.q
unfolding short_cost
short-costs aberration e =
    rw ((short-longitudes aberration e).0, (full-longitudes aberration e).0, ← short-by-all aberration e)
    (editions-apart short_terms full_terms aberration (full_arguments_of e) e.q)

-- ---- in units, at any q
lacking-costs : (q : ℤ) → costs q (map added lacking) ≡ 227_570
unfolding steady_sum varying amplitudes nearest_div floor_div
lacking-costs q = added-costs q lacking ∙ amplitudes-split lacking q

-- an amplitude at q
abbrev at : ℤ → ℤ → ℤ → ℤ
at c0 c1 q = secular.value (secular.polynomial c0 c1 (pos 0) (10 ^ 12)) q

second-cost : (q : ℤ) → nat_abs (at (pos 18_820) (negsuc 159) q -ℤ at (pos 18_820) (pos 0) q) ≡ nat_abs (at (pos 0) (negsuc 159) q)
unfolding secular.value
second-cost q = rw (nothing q (10 ^ 6), nothing (q *ℤ q) (10 ^ 12)) (ap nat_abs (less (floor_div (negsuc 159 *ℤ q) (10 ^ 6))))
  where
    less : (a : ℤ) → pos 18_820 +ℤ a +ℤ pos 0 -ℤ (pos 18_820 +ℤ pos 0 +ℤ pos 0) ≡ pos 0 +ℤ a +ℤ pos 0
    less a = rw (split a) (simp zs (omega arith))

pub short-cost-is : (q : ℤ) → short_cost q ≡ nat_abs (at (pos 0) (negsuc 159) q) + 227_570
unfolding short_cost costs nearest_div floor_div
short-cost-is q = ap (costs q) left_out ∙ ap₂ ◌+◌ (second-cost q) (lacking-costs q)

-- so 227,810 at most, at any q of an accepted instant
varying-le : (q : ℤ) → nat_abs q ≤ last_millionth → nat_abs (at (pos 0) (negsuc 159) q) ≤ 240
unfolding secular.value
varying-le q h =
    rw (nothing (q *ℤ q) (10 ^ 12))
    (alone (floor_div (negsuc 159 *ℤ q) (10 ^ 6)) 240
    (floor-abs (negsuc 159 *ℤ q) (10 ^ 6) 240 (lit< tt) (abs-*-le (negsuc 159) q 160 last_millionth (lit≤ tt) h)))
  where
    alone : (a : ℤ) (n : ℕ) → nat_abs a ≤ n → nat_abs (pos 0 +ℤ a +ℤ pos 0) ≤ n
    alone a n = rw (split a) (simp zs (omega arith))

pub short-cost-le : (q : ℤ) → nat_abs q ≤ last_millionth → short_cost q ≤ 227_810
short-cost-le q h = omega (arith, short-cost-is q, varying-le q h)

-- and as much at the last
pub short-cost-last : short_cost (pos last_millionth) ≡ 227_810
unfolding secular.value floor_div
short-cost-last = short-cost-is (pos last_millionth)
