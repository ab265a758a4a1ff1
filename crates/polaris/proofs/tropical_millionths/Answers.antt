use mathlib.Core.Path.{ap, ◌∙◌}
use Prim.Native.Nat.{◌*◌, ◌≤◌, ◌^◌}
use native.Mathlib.Omega.{arith}
use lib.Dec.{lit<}
use lib.IntN.{ℤ, pos, nat_abs, ◌-ℤ◌, ◌*ℤ◌}
use mir.Facts.{to_z-of_z}
use mir.Syntax.{w64}
use mir.Val.{SFits}
use Rattle.exact.proofs.Differences.{split, zs}
use Rattle.exact.proofs.Division.{floor-abs}
use Rattle.exact.proofs.Machine.{ok-fits}
use Rattle.epoch.specs.Sizes.{Span}
use Rattle.epoch.proofs.Sizes.{n-fits}
use Rattle.polaris.specs.Elements.{epoch1975, tropical_century, tropical_millionths}
use Rattle.polaris.proofs.tropical_millionths.Goals as goal

abbrev million : ℤ → ℤ
million n = pos 1_000_000 *ℤ (n -ℤ epoch1975)

since-1975 : (n : ℤ) → Span n → SFits w64 (n -ℤ epoch1975) × SFits w64 (million n) × (nat_abs (million n) ≤ 10 ^ 6 * tropical_century)
since-1975 n = rw (split n) (simp zs (omega arith))

pub returns : goal.returns
unfolding tropical_millionths
returns c =
    let n = c.e.inside.n in
    let sizes = since-1975 n c.e.invariant.span in
    let h = floor-abs (million n) tropical_century (10 ^ 6) (lit< tt) sizes.2 in
    let is = simp (to_z-of_z, n-fits c.e.invariant, sizes.0, sizes.1) at c.floor_div.ensures in
    simp (to_z-of_z, ok-fits c.floor_div.result c.floor_div.type_inv) (is ∙ ap tropical_millionths c.e.view_is, rw is (omega (arith, h)))
