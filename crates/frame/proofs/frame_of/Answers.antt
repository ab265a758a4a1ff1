-- ε is ε₀ with Δε, and fits.
use mathlib.Core.Path.{refl, ap}
use Prim.Native.Nat.{◌≤◌, ◌<◌, ◌^◌}
use native.Mathlib.Omega.{arith}
use lib.IntN.{ℤ, pos, nat_abs, ◌+ℤ◌}
use lib.ListN.{get_or}
use mir.Facts.{to_z-of_z}
use mir.Syntax.{w64}
use mir.Val.{SFits}
use Rattle.exact.proofs.Differences.{split, zs}
use Rattle.exact.proofs.Machine.{ok-fits, fits_lt}
use Rattle.arguments.specs.PrintedArguments.{ε₀}
use Rattle.frame.specs.Nutation.{epsilon0, epsilon}
use Rattle.frame.proofs.frame_of.Goals.{After-deps-deps, After-dpsi-dpsi, Start}
use Rattle.frame.proofs.frame_of.Goals as goal

-- ---- what was found
module _ (c : After-deps-deps) where
  -- ε₀
  abbrev mean : ℤ
  mean = get_or c.args.arguments.now ε₀ (pos 0)

  mean-size : nat_abs mean < 2 ^ 34
  mean-size = omega (arith, c.requires.reduced ε₀)

  sum : SFits w64 (mean +ℤ c.deps-deps.result) × (nat_abs (mean +ℤ c.deps-deps.result) < 2 ^ 35)
  sum = go mean c.deps-deps.result mean-size c.deps-deps.ensures.1
    where
      go : (a b : ℤ) → nat_abs a < 2 ^ 34 → nat_abs b ≤ 2 ^ 20 → SFits w64 (a +ℤ b) × (nat_abs (a +ℤ b) < 2 ^ 35)
      go a b = rw (split a, split b) (simp zs (omega arith))

  fit : SFits w64 mean × SFits w64 c.dpsi-dpsi.result × SFits w64 c.deps-deps.result
  fit = (fits_lt (2 ^ 34) mean mean-size refl, ok-fits c.dpsi-dpsi.result c.dpsi-dpsi.type_inv, ok-fits c.deps-deps.result c.deps-deps.type_inv)

pub returns : goal.returns
unfolding epsilon0 epsilon
returns c =
    simp (to_z-of_z, (fit c).0, (fit c).1, (fit c).2, (sum c).0)
    (record {
      epsilon0 = refl;
      dpsi = c.dpsi-dpsi.ensures.0;
      epsilon = ap (λ (z : ℤ). mean c +ℤ z) c.deps-deps.ensures.0;
      epsilon0-size = mean-size c;
      dpsi-size = c.dpsi-dpsi.ensures.1;
      epsilon-size = (sum c).1;
    })
