-- Demand 3, first half: at no angle of the turn do Sin and R·P differ by more than the tolerance (`sine-within-tolerance`, at the end). The one fact on closed
-- numbers that ties it to a step and a tolerance, `margin`, is computed by antt: with a step of 1′ it holds for a tolerance of 19 and for none below. The
-- largest difference is 11.556, at 3,141,300,884.
use mathlib.Core.Path.{◌≡◌, refl}
use mathlib.Core.List.{List}
use Prim.Native.Nat.{ℕ, suc, ◌+◌, ◌*◌, ◌≤◌}
use native.Mathlib.Nat.{sub-add_cancel, mul_comm, le_trans}
use native.Mathlib.Omega.{arith}
use lib.Dec.{lit<, lit≤}
use lib.IntN.{ℤ, pos, neg_ℤ, nat_abs, ◌-ℤ◌, ◌*ℤ◌}
use Rattle.exact.specs.Reduction.{Q, turn}
use Rattle.exact.proofs.Differences.{split, zs}
use Rattle.exact.proofs.Division.{Rounds, rounds}
use Rattle.sine_table.specs.Step.{step}
use Rattle.sine_table.specs.SinePolynomial.{arc, whole, cofactor, terms, plus, minus, poly_den, poly_num}
use Rattle.sine_table.specs.Table.{R, entry_at}
use Rattle.sine_table.proofs.TableRule.{entry-rounds}
use Rattle.sine.specs.Sine.{sin_quadrant, Sin, poly_at}
use Rattle.sine.specs.SineContract.{sine_tolerance, IsSine}
use Rattle.sine.proofs.Rounding.{Apart, mean-apart, enclosed}
use Rattle.sine.proofs.Terms.{overs, overs-bound, terms-chord, overs-le, minus-le-plus}
use Rattle.sine.proofs.Quadrant.{mix, sin-at, in-interval}
use Rattle.sine.proofs.Extension.{on-turn}
use Rattle.sine.proofs.Monotonicity.{sin-range}

-- ---- on 0..Q

-- what antt computes: the height of the chord over an interval is largest for the terms with minus, and four times that leaves room for the roundings
plus-lower : overs-bound step plus ≤ overs-bound step minus
unfolding overs-bound cofactor arc whole
plus-lower = lit≤ tt

margin : R * overs-bound step minus + 4 * (step * poly_den) ≤ 4 * (sine_tolerance * (step * poly_den))
unfolding overs-bound cofactor arc whole poly_den
margin = lit≤ tt

-- the numerator with the terms that it takes away
taken : (a : ℕ) → a ≤ Q → poly_num a + terms a minus ≡ terms a plus
unfolding poly_num
taken a h = sub-add_cancel (minus-le-plus a h)

-- S / R and P / poly_den are at most sine_tolerance / R apart
abbrev Near : ℕ → ℕ → Type 0
Near S P = Apart (poly_den * S) (R * P) (sine_tolerance * poly_den)

-- in an interval: a is the table's n-th angle, a + v the angle, and a + u + v the table's next
module _ (n u v a : ℕ) (parts : u + v ≡ step) (is : a ≡ step * n) (last : a + u + v ≤ Q) where
  height : (ms : List ℕ) → 4 * overs u v a ms ≤ overs-bound step ms
  height ms = rw (← parts) (overs-le u v a last ms)

  mean : Apart (4 * (u * poly_num a + v * poly_num (a + u + v))) (4 * (step * poly_num (a + v))) (overs-bound step minus)
  mean =
      mean-apart step u v (poly_num a) (terms a minus) (terms a plus) (poly_num (a + u + v)) (terms (a + u + v) minus) (terms (a + u + v) plus)
      (poly_num (a + v)) (terms (a + v) minus) (terms (a + v) plus) (overs u v a plus) (overs u v a minus) (overs-bound step minus) parts
      (taken a (omega arith)) (taken (a + u + v) last) (taken (a + v) (omega arith)) (terms-chord u v a plus) (terms-chord u v a minus)
      (le_trans (height plus) plus-lower) (height minus)

  this : Rounds (R * poly_num a) poly_den (entry_at n)
  this = rw is (entry-rounds n)

  next : Rounds (R * poly_num (a + u + v)) poly_den (entry_at (suc n))
  next = let e : a + u + v ≡ step * suc n = omega arith in rw e (entry-rounds (suc n))

  inside : Near (mix n u v) (poly_num (a + v))
  inside =
      enclosed R step u v poly_den sine_tolerance (lit< tt) parts (poly_num a) (poly_num (a + u + v)) (poly_num (a + v)) (overs-bound step minus)
      (entry_at n) (entry_at (suc n)) (mix n u v) mean this next (rounds (entry_at n * u + entry_at (suc n) * v) (lit< tt)) margin

near : (a : ℕ) → a ≤ Q → Near (sin_quadrant a) (poly_num a)
near a h =
    let p = in-interval a h in
    rw (p.is, sin-at p.n p.u p.v p.parts p.low) (inside p.n p.u p.v (step * p.n) p.parts refl (omega arith))

-- ---- over the turn, where both change their signs together
distance : (x y b : ℕ) (z w : ℤ) → z ≡ pos x → w ≡ pos y → Apart x y b → nat_abs (z -ℤ w) ≤ b
distance x y b z w = rw (split z, split w) (simp zs (omega arith))

flip : (z w : ℤ) (d r b : ℕ) → nat_abs (z *ℤ pos d -ℤ pos r *ℤ w) ≤ b → nat_abs (neg_ℤ z *ℤ pos d -ℤ pos r *ℤ neg_ℤ w) ≤ b
flip z w d r b = rw (split z, split w) (simp zs (omega arith))

near_apart : (x y : ℕ) → Near x y → nat_abs (pos x *ℤ pos poly_den -ℤ pos R *ℤ pos y) ≤ sine_tolerance * poly_den
near_apart x y h = distance (x * poly_den) (R * y) (sine_tolerance * poly_den) (pos x *ℤ pos poly_den) (pos R *ℤ pos y) refl refl (rw (mul_comm x poly_den) h)

pub sine-within-tolerance : (a : ℕ) → a ≤ turn → nat_abs (Sin a *ℤ pos poly_den -ℤ pos R *ℤ poly_at a) ≤ sine_tolerance * poly_den
unfolding Sin poly_at
sine-within-tolerance =
    on-turn sin_quadrant poly_num Near near (λ (x y : ℤ). nat_abs (x *ℤ pos poly_den -ℤ pos R *ℤ y) ≤ sine_tolerance * poly_den)
    near_apart (λ x y h. flip (pos x) (pos y) poly_den R (sine_tolerance * poly_den) (near_apart x y h))

-- ---- what a function that computes Sin ensures
pub is-sine : (a : ℕ) (r : ℤ) → a ≤ turn → r ≡ Sin a → IsSine a r
is-sine a r h e = record { value = e; range = rw e (sin-range a h); near = rw e (sine-within-tolerance a h) }
