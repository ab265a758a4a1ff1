-- The correction for a limb is defined, positive and less than a quadrant: r lies between 0.983 and 1.017, so that the
-- semidiameter is 9,450,000 to 9,780,000 units, and the sine of the zenith distance is not less than that of 22′.
use Prim.Native.Nat.{ℕ, ◌*◌, ◌≤◌, ◌<◌}
use native.Mathlib.Omega.{arith}
use lib.IntN.{ℤ, pos, nat_abs, ◌*ℤ◌}
use lib.Signed.{◌≤ℤ◌, ◌<ℤ◌}
use Rattle.exact.specs.Division.{floor_div, nearest_div}
use Rattle.exact.specs.Reduction.{turn}
use Rattle.exact.proofs.Differences.{split, zs, abs-dif}
use Rattle.orbit.proofs.Nearest.{nearest-least, nearest-most}
use Rattle.sine_table.specs.Table.{R}
use Rattle.sine.specs.Sine.{Sin}
use Rattle.sine.proofs.Monotonicity.{sin-range}
use Rattle.orbit.specs.Sizes.{RadiusSized}
use Rattle.limb.specs.Sizes.{sine_least}
use Rattle.limb.specs.Limb.{semidiameter, correction}
use Rattle.limb.specs.Sizes.{SemidiameterSized, CorrectionSized}

pub semidiameter-range : (r : ℕ) → RadiusSized r → SemidiameterSized (semidiameter r)
unfolding semidiameter nearest_div floor_div
semidiameter-range r h =
    let some : 0 < r = omega (arith, h.nearest) in
    record {
      least = nearest-least (pos 9_450_000) (pos (9_611_784 * R)) r some (simp zs (omega (arith, h.farthest)));
      most = nearest-most (pos (9_611_784 * R)) (pos 9_780_000) r some (simp zs (omega (arith, h.nearest)));
    }

-- a sine that is not small, as a divisor
pub steep : (s : ℤ) → pos sine_least ≤ℤ s → nat_abs s ≤ R → (pos 0 <ℤ s) × (sine_least ≤ nat_abs s) × (nat_abs s ≤ R)
steep s = rw (split s) (simp (zs, abs-dif) (omega arith))

-- of any semidiameter and any sine of these sizes
pub quotient-range : (s : ℤ) (n : ℕ) → SemidiameterSized s → sine_least ≤ n → n ≤ R → CorrectionSized (nearest_div (s *ℤ pos R) n)
quotient-range s n h l m =
    let g = go s n h.least h.most l m in
    record {
      least = nearest-least (pos 9_450_000) (s *ℤ pos R) n (omega arith) g.0;
      most = nearest-most (s *ℤ pos R) (pos 1_530_000_000) n (omega arith) g.1;
    }
  where
    go : (s : ℤ) (n : ℕ) → pos 9_450_000 ≤ℤ s → s ≤ℤ pos 9_780_000 → sine_least ≤ n → n ≤ R
        → ((pos n *ℤ pos 9_450_000) ≤ℤ (s *ℤ pos R)) × ((s *ℤ pos R) ≤ℤ (pos n *ℤ pos 1_530_000_000))
    go s n = rw (split s) (simp zs (omega arith))

pub correction-range : (r z : ℕ) → RadiusSized r → z ≤ turn → pos sine_least ≤ℤ Sin z → CorrectionSized (correction r z)
unfolding correction
correction-range r z h l k =
    let s = steep (Sin z) k (sin-range z l) in
    quotient-range (semidiameter r) (nat_abs (Sin z)) (semidiameter-range r h) s.1 s.2
