-- Each product and each sum fits, since the entries and the components are small (`proofs/Sizes.antt`).
use mathlib.Core.Path.{◌≡◌}
use lib.ListN.{length}
use mir.Facts.{to_z-of_z}
use borrow.Author.Rules.{rules}
use Rattle.rotation.proofs.Sizes.{sums-fit, entry-fits, component-fits, dot-is}
use Rattle.rotation.proofs.dot.Goals as goal

pub overflow_add-result : goal.overflow_add-result
overflow_add-result c =
    let x = entry-fits c.args.row c.args.d c.requires.0 c.requires.1 in
    let y = component-fits c.args.row c.args.d c.requires.0 c.requires.1 in
    let f = sums-fit c.args.row c.args.d c.requires.0 c.requires.1 in
    simp (to_z-of_z, x 0, x 1, y 0, y 1, f.0, f.1) f.3

pub overflow_mul-result-3 : goal.overflow_mul-result-3
overflow_mul-result-3 c =
    let x = entry-fits c.args.row c.args.d c.requires.0 c.requires.1 in
    let y = component-fits c.args.row c.args.d c.requires.0 c.requires.1 in
    let f = sums-fit c.args.row c.args.d c.requires.0 c.requires.1 in
    simp (to_z-of_z, x 2, y 2) f.2

pub overflow_add-result-2 : goal.overflow_add-result-2
overflow_add-result-2 c =
    let x = entry-fits c.args.row c.args.d c.requires.0 c.requires.1 in
    let y = component-fits c.args.row c.args.d c.requires.0 c.requires.1 in
    let f = sums-fit c.args.row c.args.d c.requires.0 c.requires.1 in
    simp (to_z-of_z, x 0, x 1, x 2, y 0, y 1, y 2, f.0, f.1, f.2, f.3) f.4

pub returns : goal.returns
returns c =
    let x = entry-fits c.args.row c.args.d c.requires.0 c.requires.1 in
    let y = component-fits c.args.row c.args.d c.requires.0 c.requires.1 in
    let f = sums-fit c.args.row c.args.d c.requires.0 c.requires.1 in
    let l : length c.args.row ≡ 3 = search rules in
    let k : length c.args.d ≡ 3 = search rules in
    simp (to_z-of_z, x 0, x 1, x 2, y 0, y 1, y 2, f.0, f.1, f.2, f.3, f.4) (dot-is c.args.row c.args.d l k, f.5)
