-- The stored rows are what the sources print, in whole units: one test that antt computes. With it the size of their values.
use mathlib.Core.Path.{◌≡◌, refl, ap, ◌∙◌}
use mathlib.Core.Bool.{true}
use Prim.Native.Nat.{◌*◌, ◌≤◌, ◌<◌, ◌^◌}
use native.Mathlib.Nat.{lt_of_le_of_lt}
use lib.Dec.{ltb}
use lib.IntN.{ℤ, pos, neg_ℤ, nat_abs}
use mir.Syntax.{w64}
use mir.Val.{SFits}
use borrow.Author.Tests.{ltb-true}
use Rattle.exact.specs.Division.{floor_div, nearest_div}
use Rattle.exact.proofs.Machine.{held, held-is, fits_lt}
use Rattle.secular.specs.FlooredPolynomial.{polynomial, value}
use Rattle.secular.specs.Sizes.{most}
use Rattle.secular.specs.declared.Polynomial.{Polynomial}
use Rattle.polaris.specs.PrintedElements.{right_ascension, declination, zeta, z_less_zeta, theta}

abbrev Stored : Polynomial → Polynomial → Type 0
Stored c row = (c ≡ row) × (ltb (most c) (2 ^ 39) ≡ true)

pub stored : Stored (polynomial (pos 1_146_980_412) (pos 3_072_276) (pos 1_526_094) (2 * 10 ^ 12)) right_ascension
    × Stored (polynomial (pos 3_209_398_402) (neg_ℤ (pos 7_801)) (neg_ℤ (pos 15_800)) (2 * 10 ^ 12)) declination
    × Stored (polynomial (pos 0) (pos 23_052_970) (pos 3_020) (10 ^ 12)) zeta
    × Stored (polynomial (pos 0) (pos 0) (pos 7_910) (10 ^ 12)) z_less_zeta
    × Stored (polynomial (pos 0) (pos 20_040_423) (neg_ℤ (pos 4_260)) (10 ^ 12)) theta
unfolding right_ascension declination zeta z_less_zeta theta most nearest_div floor_div
stored = ((refl, refl), (refl, refl), (refl, refl), (refl, refl), (refl, refl))

-- a value of a stored row, as the machine holds p
pub value_of : {c row : Polynomial} {p r : ℤ} → Stored c row → SFits w64 p → (r ≡ value c (held p)) × (nat_abs r ≤ most c) → (r ≡ value row p) × (nat_abs r < 2 ^ 39) × SFits w64 r
value_of {c} {row} {p} {r} s f e =
    let h = lt_of_le_of_lt e.1 (ltb-true (most c) (2 ^ 39) s.1) in
    ((simp (held-is, f) at e.0) ∙ ap (λ (k : Polynomial). value k p) s.0, h, fits_lt (2 ^ 39) r h refl)
