-- Each test is one of `sight_of`, and each call gives one of the angles.
use mathlib.Core.Path.{◌≡◌, refl, ap, ◌∙◌}
use mathlib.Core.Bool.{false}
use Prim.Native.Nat.{ℕ, ◌*◌, ◌^◌, ◌≤◌}
use native.Mathlib.Omega.{arith}
use lib.IntN.{pos}
use lib.Signed.{lt_z}
use mir.Facts.{to_z-of_z}
use mir.Syntax.{w64}
use mir.Val.{to_z}
use borrow.Author.Rules.{rules}
use borrow.Author.Tests.{le-ltb}
use Rattle.exact.specs.Largest.{root}
use Rattle.exact.proofs.Machine.{negated, as-signed}
use Rattle.exact.proofs.Products.{root-le}
use Rattle.vector_angle.specs.VectorAngle.{angle}
use Rattle.horizon.specs.Horizon.{horizontal_square, seen, sight_of}
use Rattle.horizon.specs.Sizes.{square_most}
use Rattle.horizon.proofs.Components.{x_fits, up-fits, east-fits, north-fits}
use Rattle.horizon.proofs.View.angles.Goals as goal

-- the root of a square of components, as the machine holds it
horizontal : (h square : ℕ) → h * h ≤ square → square ≤ square_most → (h ≤ 2 ^ 34) × (to_z w64 h ≡ pos h)
horizontal h square e f = let small = root-le h (2 ^ 34) (omega arith) in (small, as-signed h (omega (arith, small)))

pub angle-requires-2 : goal.angle-requires-2
angle-requires-2 c =
    let h = horizontal c.root-h.result c.horizontal_square-square.result c.root-h.ensures.1 c.horizontal_square-square.ensures.1 in
    simp (to_z-of_z, up-fits c.args.self, h.1) (omega arith, h.0)

pub returns : goal.returns
unfolding sight_of seen
returns c =
    let v = c.args.self in
    let square = c.horizontal_square-square.ensures.0 in
    let h = horizontal c.root-h.result c.horizontal_square-square.result c.root-h.ensures.1 c.horizontal_square-square.ensures.1 in
    let minus = negated v.east (omega arith) in
    let up : lt_z v.up (pos 0) ≡ false = search rules in
    let far = le-ltb (horizontal_square v.north v.east) (10 ^ 14) (rw square at c.if-square-lt-LEAST_SQUARE.false) in
    let azimuth = simp (to_z-of_z, north-fits v, east-fits v) at c.angle.ensures.0 in
    let zenith-distance = (simp (to_z-of_z, up-fits v, h.1) at c.angle-2.ensures.0) ∙ ap (λ (n : ℕ). angle v.up (pos n)) (c.root-h.ensures.0 ∙ ap root square) in
    let hour-angle = (simp (to_z-of_z, x_fits v, east-fits v, minus.0) at c.angle-3.ensures.0) ∙ ap (angle v.x) minus.1 in
    (rw (up, far, azimuth, zenith-distance, hour-angle) refl, (c.angle.ensures.1, c.angle-2.ensures.1, c.angle-3.ensures.1))
