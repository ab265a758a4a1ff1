-- The law of sums, for any list of terms: a sum with the table sine and the same sum with the polynomial, each divided by R once and rounded, are at
-- most k units apart, where k·R is at least the sum of the amplitudes at q, without their signs, times the sine's tolerance. So another list, or
-- another table, changes a figure and no proof.
use mathlib.Core.Path.{◌≡◌}
use mathlib.Core.List.{List, [], ◌∷◌}
use Prim.Native.Nat.{ℕ, ◌+◌, ◌*◌, ◌≤◌}
use native.Mathlib.Nat.{le_refl, le_trans, mul-le-mul_right, mul-pos, le_of_lt}
use native.Mathlib.Omega.{arith}
use lib.Dec.{lit<}
use lib.IntN.{ℤ, pos, nat_abs, ◌+ℤ◌, ◌-ℤ◌, ◌*ℤ◌}
use Rattle.exact.proofs.Differences.{split, zs}
use Rattle.exact.proofs.Division.{Within, nearest-near}
use Rattle.exact.proofs.Integers.{abs-*-le}
use Rattle.sine_table.specs.SinePolynomial.{poly_den}
use Rattle.sine_table.specs.Table.{R}
use Rattle.sine.specs.Sine.{Sin}
use Rattle.sine.specs.SineContract.{sine_tolerance}
use Rattle.sine_table.proofs.TableRule.{den_pos}
use Rattle.sine.proofs.SineBound.{sine-within-tolerance}
use Rattle.series.specs.Term.{Term, value, amplitude_of, angle_of}
use Rattle.series.specs.Sum.{total, table_sum, polynomial_sum, scaled_p, amplitudes}
use Rattle.series.proofs.Sums.{angle-lt}

module _ (arguments : List ℤ) (q : ℤ) where
  -- one term: the amplitude times the sine's error
  factor : (a x y d : ℤ) → (a *ℤ x) *ℤ d -ℤ a *ℤ y ≡ a *ℤ (x *ℤ d -ℤ y)
  factor a x y d = rw (split a, split x, split y, split d) (simp zs (omega arith))

  term-apart : (t : Term) → nat_abs (value Sin arguments q t *ℤ pos poly_den -ℤ value scaled_p arguments q t) ≤ nat_abs (amplitude_of t q) * (sine_tolerance * poly_den)
  unfolding value
  term-apart t =
      let a = angle_of arguments t in
      rw (factor (amplitude_of t q) (Sin a) (scaled_p a) (pos poly_den))
      (abs-*-le (amplitude_of t q) (Sin a *ℤ pos poly_den -ℤ scaled_p a) (nat_abs (amplitude_of t q)) (sine_tolerance * poly_den) (le_refl _)
      (sine-within-tolerance a (le_of_lt (angle-lt arguments t))))

  -- and all of them
  add : (x y z w d : ℤ) (m n : ℕ) → nat_abs (x *ℤ d -ℤ y) ≤ m → nat_abs (z *ℤ d -ℤ w) ≤ n → nat_abs ((x +ℤ z) *ℤ d -ℤ (y +ℤ w)) ≤ m + n
  add x y z w d m n = rw (split x, split y, split z, split w, split d) (simp zs (omega arith))

  sums_apart : (ts : List Term) → nat_abs (total Sin arguments q ts *ℤ pos poly_den -ℤ total scaled_p arguments q ts) ≤ amplitudes ts q * (sine_tolerance * poly_den)
  unfolding total amplitudes
  sums_apart [] = omega arith
  sums_apart (t ∷ ts) =
      le_trans
      (add (value Sin arguments q t) (value scaled_p arguments q t) (total Sin arguments q ts) (total scaled_p arguments q ts) (pos poly_den)
      (nat_abs (amplitude_of t q) * (sine_tolerance * poly_den)) (amplitudes ts q * (sine_tolerance * poly_den)) (term-apart t) (sums_apart ts))
      (omega arith)

  -- one division by R
  scale : (z w : ℤ) (d n : ℕ) → nat_abs (z *ℤ pos d -ℤ w) ≤ n → Within (pos (R * d) *ℤ z) (pos R *ℤ w) (R * n)
  scale z w d n = rw (split z, split w) (simp zs (omega arith))

  pub sum_bound : (k : ℕ) (ts : List Term) → amplitudes ts q * sine_tolerance ≤ R * k → Within (table_sum arguments q ts) (polynomial_sum arguments q ts) k
  unfolding table_sum polynomial_sum
  sum_bound k ts light =
      let z = total Sin arguments q ts in
      let w = total scaled_p arguments q ts in
      let n : amplitudes ts q * sine_tolerance * poly_den ≤ R * k * poly_den = mul-le-mul_right poly_den light in
      nearest-near z w R (R * poly_den) k (lit< tt) (mul-pos (lit< tt) den_pos)
      (rw (even poly_den k) (scale z w poly_den (R * k * poly_den) (le_trans (sums_apart ts) (omega arith))))
    where
      even : (d k : ℕ) → R * (R * d) * k ≡ R * (R * k * d)
      even d k = omega arith
