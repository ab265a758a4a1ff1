-- Each component is what the two calls ensure, and `Growth` has the length.
use mathlib.Core.Path.{◌≡◌, refl, ap, ◌∙◌}
use mathlib.Core.List.{List, []}
use Prim.Native.Nat.{ℕ, ◌≤◌}
use lib.IntN.{ℤ}
use lib.ListN.{length, get_or}
use mir.Facts.{to_z-of_z}
use borrow.Author.Rules.{rules}
use Rattle.exact.specs.Division.{nearest_div}
use Rattle.exact.proofs.Machine.{ok-fits}
use Rattle.sine_table.specs.Table.{R}
use Rattle.rotation.specs.Rotation.{dot}
use Rattle.rotation.specs.Length.{Rotation, squared_length}
use Rattle.rotation.specs.Sizes.{Bounded, component_most, reach}
use Rattle.rotation.proofs.Sizes.{entries-le, components-le}
use Rattle.rotation.proofs.Components.{rotated-is}
use Rattle.rotation.proofs.Growth.{grows}
use Rattle.rotation.proofs.rotated.Goals.{After-nearest_div-z}
use Rattle.rotation.proofs.rotated.Goals as goal

-- what the sum of a row asks
small : (m : List (List ℤ)) (d : List ℤ) → Rotation m → squared_length d ≤ reach → (i : ℕ) → Bounded R (get_or m i []) × Bounded component_most d
small m d h l i = (entries-le h i, components-le d l)

-- the component of a row
abbrev part : List (List ℤ) → List ℤ → ℕ → ℤ
part m d i = nearest_div (dot (get_or m i []) d) R

-- the components
x-is : (c : After-nearest_div-z) → c.nearest_div-x.result ≡ part c.args.m c.args.d 0
x-is c = let d = c.dot in (simp (to_z-of_z, ok-fits d.result d.type_inv) at c.nearest_div-x.ensures) ∙ ap (λ (z : ℤ). nearest_div z R) d.ensures.0

y-is : (c : After-nearest_div-z) → c.nearest_div-y.result ≡ part c.args.m c.args.d 1
y-is c = let d = c.dot-2 in (simp (to_z-of_z, ok-fits d.result d.type_inv) at c.nearest_div-y.ensures) ∙ ap (λ (z : ℤ). nearest_div z R) d.ensures.0

z-is : (c : After-nearest_div-z) → c.nearest_div-z.result ≡ part c.args.m c.args.d 2
z-is c = let d = c.dot-3 in (simp (to_z-of_z, ok-fits d.result d.type_inv) at c.nearest_div-z.ensures) ∙ ap (λ (z : ℤ). nearest_div z R) d.ensures.0

pub dot-requires : goal.dot-requires
dot-requires c = small c.args.m c.args.d c.requires.0 c.requires.1 0

pub dot-requires-2 : goal.dot-requires-2
dot-requires-2 c = small c.args.m c.args.d c.requires.0 c.requires.1 1

pub dot-requires-3 : goal.dot-requires-3
dot-requires-3 c = small c.args.m c.args.d c.requires.0 c.requires.1 2

pub returns : goal.returns
returns c =
    let l : length c.args.m ≡ 3 = search rules in
    let k : length c.args.d ≡ 3 = search rules in
    simp (to_z-of_z, ok-fits c.nearest_div-x.result c.nearest_div-x.type_inv, ok-fits c.nearest_div-y.result c.nearest_div-y.type_inv, ok-fits c.nearest_div-z.result c.nearest_div-z.type_inv)
    (rw (x-is c, y-is c, z-is c, rotated-is c.args.m c.args.d l) (refl, grows c.requires.0 c.args.d k c.requires.1))
