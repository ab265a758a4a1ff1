-- The components of a view, and those of a direction that a rotation gave, are small; so each is what the machine holds for it.
use mathlib.Core.Path.{refl}
use Prim.Native.Nat.{ℕ, ◌≤◌}
use lib.IntN.{ℤ}
use mathlib.Core.List.{List}
use mir.Syntax.{w64}
use mir.Val.{SFits}
use Rattle.exact.specs.Nth.{nth}
use Rattle.exact.proofs.Machine.{fits_le}
use Rattle.rotation.specs.Length.{squared_length}
use Rattle.rotation.specs.Sizes.{reach, component_most}
use Rattle.rotation.proofs.Sizes.{components-le}
use Rattle.horizon.specs.declared.View.{View}

module _ (v : View) where
  pub x_fits : SFits w64 v.x
  x_fits = fits_le component_most v.x v.x_small refl

  pub up-fits : SFits w64 v.up
  up-fits = fits_le component_most v.up v.up_small refl

  pub east-fits : SFits w64 v.east
  east-fits = fits_le component_most v.east v.east_small refl

  pub north-fits : SFits w64 v.north
  north-fits = fits_le component_most v.north v.north_small refl

pub component-fits : (d : List ℤ) → squared_length d ≤ reach → (i : ℕ) → SFits w64 (nth d i)
component-fits d h i = fits_le component_most (nth d i) (components-le d h i) refl
