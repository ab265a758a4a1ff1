-- What `floor_div` is, and that nothing else is.
use mathlib.Core.Path.{◌≡◌}
use Prim.Native.Nat.{ℕ, ◌<◌}
use native.Mathlib.Nat.{div-add-mod, mod-lt}
use native.Mathlib.Omega.{arith}
use lib.IntN.{ℤ, pos, negsuc, ◌+ℤ◌, ◌*ℤ◌}
use lib.Signed.{◌≤ℤ◌, ◌<ℤ◌, ≤ℤ_refl}
use Rattle.exact.specs.Division.{floor_div}
use Rattle.exact.proofs.Differences.{zs}
use Rattle.exact.proofs.Integers.{≤-antisym, within_step}

pub floor-low : (z : ℤ) (d : ℕ) → 0 < d → (pos d *ℤ floor_div z d) ≤ℤ z
unfolding floor_div
floor-low (pos a) d h = let e = div-add-mod a d in simp zs (omega arith)
floor-low (negsuc a) d h = let e = div-add-mod a d in let m = mod-lt a h in simp zs (omega arith)

pub floor-high : (z : ℤ) (d : ℕ) → 0 < d → z <ℤ (pos d *ℤ floor_div z d +ℤ pos d)
unfolding floor_div
floor-high (pos a) d h = let e = div-add-mod a d in let m = mod-lt a h in simp zs (omega arith)
floor-high (negsuc a) d h = let e = div-add-mod a d in simp zs (omega arith)

-- ---- and the only such
pub floor-is : (z q : ℤ) (d : ℕ) → 0 < d → (pos d *ℤ q) ≤ℤ z → z <ℤ (pos d *ℤ q +ℤ pos d) → q ≡ floor_div z d
floor-is z q d h l u =
    ≤-antisym q (floor_div z d) (within_step d q (floor_div z d) z z l (≤ℤ_refl z) (floor-high z d h))
    (within_step d (floor_div z d) q z z (floor-low z d h) (≤ℤ_refl z) u)
