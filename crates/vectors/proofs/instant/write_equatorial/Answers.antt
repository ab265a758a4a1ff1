-- No component of a direction is too large for an angle, nor is the root of two squares.
use mathlib.Core.Path.{◌≡◌, refl}
use mathlib.Core.List.{List, [], ◌∷◌}
use Prim.Native.Nat.{ℕ, ◌+◌, ◌*◌, ◌≤◌}
use native.Mathlib.Omega.{arith}
use lib.IntN.{ℤ, pos, nat_abs}
use mir.Facts.{to_z-of_z}
use mir.Syntax.{w64}
use mir.Val.{SFits, to_z}
use Rattle.exact.specs.Nth.{nth}
use Rattle.exact.proofs.Machine.{fits_le, as-signed}
use Rattle.rotation.specs.Length.{squared_length}
use Rattle.rotation.specs.Sizes.{Bounded, reach, component_most}
use Rattle.rotation.proofs.Sizes.{components-le}
use Rattle.vectors.proofs.instant.write_equatorial.Goals.{After-magnitude-m, After-magnitude-n, After-root-h, Start}
use Rattle.vectors.proofs.instant.write_equatorial.Goals as goal

squares : (d : List ℤ) (m n : ℕ) → m ≡ nat_abs (nth d 0) → n ≡ nat_abs (nth d 1) → squared_length d ≤ reach → m * m + n * n ≤ reach
unfolding squared_length
squares [] m n e f h = rw (e, f) (omega arith)
squares (x ∷ []) m n e f h = rw (e, f) (omega arith)
squares (x ∷ y ∷ d) m n e f h = rw (e, f) (omega arith)

module _ (c : Start) where
  component-le : Bounded component_most c.args.d
  component-le = components-le c.args.d c.requires

  component-fits : (i : ℕ) → SFits w64 (nth c.args.d i)
  component-fits i = fits_le component_most (nth c.args.d i) (component-le i) refl

module _ (c : After-magnitude-n) where
  abbrev first : After-magnitude-m
  first = c.before.before

  abbrev start : Start
  start = first.before.before

  squares-le : first.magnitude-m.result * first.magnitude-m.result + c.magnitude-n.result * c.magnitude-n.result ≤ reach
  squares-le =
      let e = simp (to_z-of_z, component-fits start 0) at first.magnitude-m.ensures in
      let f = simp (to_z-of_z, component-fits start 1) at c.magnitude-n.ensures in
      squares start.args.d first.magnitude-m.result c.magnitude-n.result e f start.requires

module _ (c : After-root-h) where
  root-le : c.root-h.result ≤ component_most
  unfolding squared_length
  root-le = components-le (pos c.root-h.result ∷ []) (omega (arith, c.root-h.ensures.1, squares-le c.before)) 0

  root_is : to_z w64 c.root-h.result ≡ pos c.root-h.result
  root_is = as-signed c.root-h.result (omega (arith, root-le))

pub overflow_mul-m : goal.overflow_mul-m
overflow_mul-m c = omega (arith, squares-le c)

pub overflow_mul-n : goal.overflow_mul-n
overflow_mul-n c = omega (arith, squares-le c)

pub overflow_add-m : goal.overflow_add-m
overflow_add-m c = omega (arith, squares-le c)

pub overflow_cast-h : goal.overflow_cast-h
overflow_cast-h c = omega (arith, root-le c)

pub angle-requires : goal.angle-requires
angle-requires c =
    let s = start c.before.before.before in
    simp (to_z-of_z, component-fits s 0, component-fits s 1) (omega (arith, component-le s 0), omega (arith, component-le s 1))

pub angle-requires-2 : goal.angle-requires-2
angle-requires-2 c =
    let r = c.before.before.before.before.before in
    let s = start r.before in
    simp (to_z-of_z, component-fits s 2, root_is r) (omega (arith, root-le r), omega (arith, component-le s 2))
