-- How a quotient to nearest moves with the number divided: a quotient that is at least k, or at most k, is rounded to such a one.
use mathlib.Core.Path.{subst}
use Prim.Native.Nat.{ℕ, ◌*◌, ◌<◌}
use native.Mathlib.Omega.{arith}
use lib.IntN.{ℤ, pos, ◌+ℤ◌, ◌*ℤ◌}
use lib.Signed.{◌≤ℤ◌, ◌<ℤ◌}
use Rattle.exact.specs.Division.{nearest_div}
use Rattle.exact.proofs.Differences.{split, zs}
use Rattle.exact.proofs.Division.{floor-mono, nearest-multiple}

pub nearest-order : (z w : ℤ) (d : ℕ) → 0 < d → z ≤ℤ w → nearest_div z d ≤ℤ nearest_div w d
unfolding nearest_div
nearest-order z w d h l = floor-mono (pos 2 *ℤ z +ℤ pos d) (pos 2 *ℤ w +ℤ pos d) (2 * d) (omega arith) (go z w l)
  where
    go : (z w : ℤ) → z ≤ℤ w → (pos 2 *ℤ z +ℤ pos d) ≤ℤ (pos 2 *ℤ w +ℤ pos d)
    go z w = rw (split z, split w) (simp zs (omega arith))

pub nearest-least : (k z : ℤ) (d : ℕ) → 0 < d → (pos d *ℤ k) ≤ℤ z → k ≤ℤ nearest_div z d
nearest-least k z d h l = subst (λ (x : ℤ). x ≤ℤ nearest_div z d) (nearest-multiple k d h) (nearest-order (pos d *ℤ k) z d h l)

pub nearest-most : (z k : ℤ) (d : ℕ) → 0 < d → z ≤ℤ (pos d *ℤ k) → nearest_div z d ≤ℤ k
nearest-most z k d h l = subst (λ (x : ℤ). nearest_div z d ≤ℤ x) (nearest-multiple k d h) (nearest-order z (pos d *ℤ k) d h l)

pub above_zero : (n : ℕ) → 0 < n → pos 0 <ℤ pos n
above_zero n h = simp zs (omega arith)
