-- Demand 3 for any edition, by request 7's bound: the longitude by any list of terms lies, the short way round, within `bound_of` of its polynomial
-- longitude. That bound comes from the largest sum of the list's own amplitudes; with the full edition the largest sum is 70,447,118, at the first q,
-- and the bound 5 units.
use mathlib.Core.Path.{◌≡◌, refl, ap, subst}
use mathlib.Core.List.{List, ◌++◌}
use Prim.Native.Nat.{ℕ, zero, suc, ◌+◌, ◌-◌, ◌*◌, ◌^◌, ◌≤◌, ◌<◌}
use native.Mathlib.Nat.{le_trans, le_antisymm, mul-le-mul, not-suc-le-zero, div-add-mod', mod-lt}
use native.Mathlib.Omega.{arith}
use lib.Dec.{lit<, lit≤}
use lib.IntN.{ℤ, pos, negsuc, neg_ℤ, nat_abs, ◌+ℤ◌, ◌-ℤ◌, ◌*ℤ◌}
use lib.Signed.{◌≤ℤ◌, le_z_yes}
use Rattle.exact.specs.Reduction.{short_way}
use Rattle.exact.specs.Division.{floor_div, nearest_div}
use Rattle.exact.specs.Largest.{greatest}
use Rattle.exact.proofs.Differences.{split, zs, abs-dif}
use Rattle.exact.proofs.Division.{Within}
use Rattle.exact.proofs.Largest.{greatest-ge, greatest-le}
use Rattle.exact.proofs.Reduction.{short-way-le}
use Rattle.secular.specs.FlooredPolynomial as secular
use Rattle.sine_table.specs.Table.{R}
use Rattle.sine.specs.SineContract.{sine_tolerance}
use Rattle.epoch.specs.Epoch.{first_millionth, last_millionth}
use Rattle.epoch.proofs.Sizes.{Millionths}
use Rattle.series.specs.Term.{Term}
use Rattle.series.specs.Sum.{table_sum, polynomial_sum, amplitudes}
use Rattle.series.proofs.Sums.{nothing, amplitudes-append}
use Rattle.series.proofs.Steady.{steady_sum, varying, amplitudes-split}
use Rattle.series.proofs.SumBound.{sum_bound}
use Rattle.frame.specs.Nutation.{dpsi, dpsi_terms}
use Rattle.sun.specs.Series.{full_terms}
use Rattle.sun.specs.Tolerance.{largest_sum, upward, bound_of}
use Rattle.sun.specs.Longitude.{mean_longitude, longitude_by, polynomial_by}

-- ---- any list of terms, by the units that its amplitudes at q come to
pub upward-holds : (n : ℕ) → n ≤ R * upward n R
upward-holds n = omega arith

module _ (terms : List Term) (aberration : ℤ) (arguments : List ℤ) (q : ℤ) where
  together : (l f f' p p' k : ℤ) (m n : ℕ) → Within f f' m → Within p p' n → nat_abs ((l +ℤ f +ℤ p -ℤ k) -ℤ (l +ℤ f' +ℤ p' -ℤ k)) ≤ m + n
  together l f f' p p' k m n = rw (split l, split f, split f', split p, split p', split k) (simp zs (omega arith))

  pub apart : (m n : ℕ) → amplitudes terms q * sine_tolerance ≤ R * m → amplitudes dpsi_terms q * sine_tolerance ≤ R * n
      → short_way (longitude_by terms aberration arguments q) (polynomial_by terms aberration arguments q) ≤ m + n
  unfolding longitude_by polynomial_by dpsi
  apart m n h k =
      le_trans (short-way-le _ _)
      (together (mean_longitude arguments) (table_sum arguments q terms) (polynomial_sum arguments q terms) (table_sum arguments q dpsi_terms)
      (polynomial_sum arguments q dpsi_terms) aberration m n (sum_bound arguments q m terms h) (sum_bound arguments q n dpsi_terms k))

-- ---- the largest sum
pub sum-le-largest : (terms : List Term) (q : ℤ) → Millionths q → amplitudes terms q ≤ largest_sum terms
unfolding largest_sum
sum-le-largest terms q h =
    let r = range q h in
    subst (λ (z : ℤ). amplitudes terms z ≤ greatest (λ n. amplitudes terms (pos n)) first_millionth (last_millionth - first_millionth)) r.0
    (greatest-ge (λ n. amplitudes terms (pos n)) first_millionth (last_millionth - first_millionth) (nat_abs q) r.1 r.2)
  where
    range : (q : ℤ) → Millionths q → (pos (nat_abs q) ≡ q) × (first_millionth ≤ nat_abs q) × (nat_abs q ≤ last_millionth)
    range (pos n) h = (refl, low n h.0, high n h.1)
      where
        low : (n : ℕ) → pos first_millionth ≤ℤ pos n → first_millionth ≤ n
        low n = simp zs (omega arith)

        high : (n : ℕ) → pos n ≤ℤ pos last_millionth → n ≤ last_millionth
        high n = simp zs (omega arith)
    range (negsuc n) h = absurd (no n h.0)
      where
        no : (n : ℕ) → pos first_millionth ≤ℤ negsuc n → ⊥
        no n = simp zs (omega arith)

largest-le : (terms : List Term) (m : ℕ) → ((n : ℕ) → first_millionth ≤ n → n ≤ last_millionth → amplitudes terms (pos n) ≤ m) → largest_sum terms ≤ m
unfolding largest_sum
largest-le terms m all = greatest-le (λ n. amplitudes terms (pos n)) first_millionth (last_millionth - first_millionth) m all

-- ---- any list of terms, by its bound
units : (a b m : ℕ) → a + b ≤ m → upward (a * sine_tolerance) R + upward (b * sine_tolerance) R ≤ upward (m * sine_tolerance) R + 2
units a b m h = omega arith

pub within-bound : (terms : List Term) (aberration : ℤ) (arguments : List ℤ) (q : ℤ) → Millionths q
    → short_way (longitude_by terms aberration arguments q) (polynomial_by terms aberration arguments q) ≤ bound_of terms
unfolding bound_of
within-bound terms aberration arguments q h =
    let a = amplitudes terms q in
    let b = amplitudes dpsi_terms q in
    le_trans
    (apart terms aberration arguments q (upward (a * sine_tolerance) R) (upward (b * sine_tolerance) R) (upward-holds (a * sine_tolerance)) (upward-holds (b * sine_tolerance)))
    (units a b (largest_sum (terms ++ dpsi_terms)) (rw amplitudes-append at (sum-le-largest (terms ++ dpsi_terms) q h)))

-- ---- the full edition: its largest sum. Its amplitudes are the same at every q but for four; of these three fall with q, and the largest by far falls
-- faster than that of Δψ grows.
abbrev pub full_and_dpsi : List Term
full_and_dpsi = full_terms ++ dpsi_terms

steady-part : steady_sum full_and_dpsi ≡ 566_076
unfolding steady_sum nearest_div floor_div
steady-part = refl

-- an amplitude at q
abbrev at : ℤ → ℤ → ℤ → ℤ → ℤ
at c0 c1 c2 q = secular.value (secular.polynomial c0 c1 c2 (10 ^ 12)) q

varying-part : (q : ℤ)
    → amplitudes (varying full_and_dpsi) q
    ≡ nat_abs (at (pos 69_100_571) (negsuc 172_399) (negsuc 517) q)
    + (nat_abs (at (pos 723_380) (negsuc 3_610) (pos 0) q)
    + (nat_abs (at (pos 18_820) (negsuc 159) (pos 0) q)
    + (nat_abs (at (negsuc 172_326) (negsuc 173) (pos 0) q) + 0)))
unfolding varying amplitudes nearest_div floor_div
varying-part q = refl

-- a number below 0 divided and floored: minus the quotient rounded up
record Fall (k d : ℕ) (a : ℤ) : Type 0 where
  pub below : a ≤ℤ pos 0
  pub least : k ≤ d * nat_abs a
  pub most : d * nat_abs a < k + d

falls : (k d : ℕ) → 0 < k → 0 < d → Fall k d (floor_div (neg_ℤ (pos k)) d)
unfolding floor_div
falls zero d g h = absurd (not-suc-le-zero g)
falls (suc k) d g h =
    record {
      below = le_z_yes tt;
      least = omega (arith, div-add-mod' k d, mod-lt k h);
      most = omega (arith, div-add-mod' k d, mod-lt k h);
    }

-- an amplitude that such numbers lessen, and one below 0 that they make larger
less_by : (c : ℕ) (a b : ℤ) → a ≤ℤ pos 0 → b ≤ℤ pos 0 → nat_abs a + nat_abs b ≤ c → nat_abs (pos c +ℤ a +ℤ b) + (nat_abs a + nat_abs b) ≡ c
less_by c a b = rw (split a, split b) (simp (zs, abs-dif) (omega arith))

more_by : (c : ℕ) (a : ℤ) → nat_abs (negsuc c +ℤ a +ℤ pos 0) ≤ suc c + nat_abs a
more_by c a = rw (split a) (simp (zs, abs-dif) (omega arith))

module _ (n : ℕ) (low : first_millionth ≤ n) (high : n ≤ last_millionth) where
  -- −c·n / 10^6, floored
  abbrev slope : ℕ → ℤ
  slope c = floor_div (neg_ℤ (pos (c * n))) (10 ^ 6)

  abbrev curve : ℤ
  curve = floor_div (neg_ℤ (pos (518 * (n * n)))) (10 ^ 12)

  first : nat_abs (at (pos 69_100_571) (negsuc 172_399) (negsuc 517) (pos n)) + (nat_abs (slope 172_400) + nat_abs curve) ≡ 69_100_571
  unfolding secular.value
  first =
      let a = falls (172_400 * n) (10 ^ 6) (omega arith) (lit< tt) in
      let b = falls (518 * (n * n)) (10 ^ 12) (omega (arith, mul-le-mul low low)) (lit< tt) in
      less_by 69_100_571 (slope 172_400) curve a.below b.below (omega (arith, mul-le-mul high high))

  straight : (z : ℤ) (c : ℕ) → at z (negsuc c) (pos 0) (pos n) ≡ z +ℤ slope (suc c) +ℤ pos 0
  unfolding secular.value
  straight z c = ap (λ (x : ℤ). z +ℤ slope (suc c) +ℤ x) (nothing (pos n *ℤ pos n) (10 ^ 12))

  lessened : (z c : ℕ) → slope (suc c) ≤ℤ pos 0 → nat_abs (slope (suc c)) ≤ z → nat_abs (at (pos z) (negsuc c) (pos 0) (pos n)) + nat_abs (slope (suc c)) ≡ z
  lessened z c h l = rw (straight (pos z) c) (omega (arith, less_by z (slope (suc c)) (pos 0) h (le_z_yes tt) (omega arith)))

  sum-at : amplitudes full_and_dpsi (pos n) ≤ 70_447_118
  sum-at =
      let a = falls (172_400 * n) (10 ^ 6) (omega arith) (lit< tt) in
      let b = falls (518 * (n * n)) (10 ^ 12) (omega (arith, mul-le-mul low low)) (lit< tt) in
      let c = falls (3_611 * n) (10 ^ 6) (omega arith) (lit< tt) in
      let d = falls (160 * n) (10 ^ 6) (omega arith) (lit< tt) in
      let e = falls (174 * n) (10 ^ 6) (omega arith) (lit< tt) in
      let second = lessened 723_380 3_610 c.below (omega arith) in
      let third = lessened 18_820 159 d.below (omega arith) in
      let fourth = rw (← straight (negsuc 172_326) 173) at (more_by 172_326 (slope 174)) in
      let faster : nat_abs (slope 174) + 130_889 ≤ nat_abs (slope 172_400) = omega arith in
      let more : (2_745 ≤ nat_abs (slope 3_611)) × (122 ≤ nat_abs (slope 160)) = (omega arith, omega arith) in
      let bent : 300 ≤ nat_abs curve = omega (arith, mul-le-mul low low) in
      rw (amplitudes-split full_and_dpsi (pos n), steady-part, varying-part (pos n)) (omega (arith, first))

reached : 70_447_118 ≤ amplitudes full_and_dpsi (pos first_millionth)
unfolding amplitudes secular.value nearest_div floor_div
reached = lit≤ tt

pub largest-is : largest_sum full_and_dpsi ≡ 70_447_118
largest-is =
    le_antisymm (largest-le full_and_dpsi 70_447_118 sum-at)
    (le_trans reached (sum-le-largest full_and_dpsi (pos first_millionth) (le_z_yes tt, le_z_yes tt)))

-- and its bound
pub full-bound-is : bound_of full_terms ≡ 5
unfolding bound_of
full-bound-is = ap (λ (m : ℕ). upward (m * sine_tolerance) R + 2) largest-is
