use mathlib.Core.Path.{refl}
use Prim.Native.Nat.{◌*◌, ◌≤◌}
use native.Mathlib.Nat.{le_refl}
use native.Mathlib.Omega.{arith}
use lib.IntN.{ℤ, nat_abs, ◌*ℤ◌}
use mir.Facts.{to_z-of_z}
use mir.Syntax.{w64}
use mir.Val.{SFits}
use borrow.Author.Rules.{rules}
use Rattle.exact.proofs.Integers.{abs-*-le}
use Rattle.exact.proofs.Machine.{ok-fits, fits_le}
use Rattle.sine_table.specs.Table.{R}
use Rattle.rotation.proofs.Growth.{rounded}
use Rattle.polaris.specs.Apparent.{scaled}
use Rattle.polaris.proofs.scaled.Goals as goal

scaled-le : (a b : ℤ) → nat_abs b ≤ R → nat_abs (scaled a b) ≤ nat_abs a
scaled-le a b h = omega (arith, rounded (a *ℤ b), abs-*-le a b (nat_abs a) R (le_refl (nat_abs a)) h)

product_fits : (a b : ℤ) → nat_abs a ≤ R → nat_abs b ≤ R → SFits w64 (a *ℤ b)
product_fits a b h k = fits_le (R * R) (a *ℤ b) (abs-*-le a b R R h k) refl

pub nearest_div-requires : goal.nearest_div-requires
nearest_div-requires c =
    let a = c.args.a in
    let b = c.args.b in
    simp (to_z-of_z, c.ranges.a, c.ranges.b, product_fits a b c.requires.0 c.requires.1)
    (search rules, omega (arith, abs-*-le a b R R c.requires.0 c.requires.1))

pub returns : goal.returns
returns c =
    let a = c.args.a in
    let b = c.args.b in
    let is = simp (to_z-of_z, c.ranges.a, c.ranges.b, product_fits a b c.requires.0 c.requires.1) at c.nearest_div.ensures in
    simp (to_z-of_z, ok-fits c.nearest_div.result c.nearest_div.type_inv) (is, rw is (scaled-le a b c.requires.1))
