-- Each number of the list is the field of its index, and the list is long enough for all of them.
use mathlib.Core.Path.{refl}
use native.Mathlib.Omega.{arith}
use mir.Facts.{to_z-of_z}
use mir.Syntax.{w64}
use mir.Val.{SFits}
use Rattle.exact.specs.Nth.{nth}
use Rattle.fieldbook.specs.Shot.{numbers_of}
use Rattle.fieldbook.proofs.numbers_of.Goals as goal

pub returns : goal.returns
unfolding numbers_of
returns c =
    let l = c.args.fields.now in
    let fit0 : SFits w64 (nth l 0) = record { sfits = omega arith } in
    let fit1 : SFits w64 (nth l 1) = record { sfits = omega arith } in
    let fit2 : SFits w64 (nth l 2) = record { sfits = omega arith } in
    let fit3 : SFits w64 (nth l 3) = record { sfits = omega arith } in
    let fit4 : SFits w64 (nth l 4) = record { sfits = omega arith } in
    let fit5 : SFits w64 (nth l 5) = record { sfits = omega arith } in
    let fit6 : SFits w64 (nth l 6) = record { sfits = omega arith } in
    let fit7 : SFits w64 (nth l 7) = record { sfits = omega arith } in
    let fit8 : SFits w64 (nth l 8) = record { sfits = omega arith } in
    let fit9 : SFits w64 (nth l 9) = record { sfits = omega arith } in
    let fit10 : SFits w64 (nth l 10) = record { sfits = omega arith } in
    simp (to_z-of_z, fit0, fit1, fit2, fit3, fit4, fit5, fit6, fit7, fit8, fit9, fit10) refl
