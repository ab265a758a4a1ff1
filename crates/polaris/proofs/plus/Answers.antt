-- Each sum fits, and the direction is hardly longer.
use mathlib.Core.Path.{◌≡◌, refl, sym, ap₂}
use mathlib.Core.List.{List, [], ◌∷◌}
use Prim.Native.Nat.{ℕ, ◌+◌, ◌*◌, ◌^◌, ◌≤◌}
use native.Mathlib.Nat.{mul-le-mul}
use native.Mathlib.Omega.{arith}
use lib.IntN.{ℤ, pos, nat_abs, ◌+ℤ◌}
use lib.ListN.{length}
use mir.Facts.{to_z-of_z}
use mir.Syntax.{w64}
use mir.Val.{SFits}
use borrow.Author.Rules.{rules}
use Rattle.exact.specs.Nth.{nth}
use Rattle.exact.proofs.Differences.{split, zs, abs-dif}
use Rattle.exact.proofs.Machine.{fits_le}
use Rattle.rotation.specs.Length.{squared_length}
use Rattle.rotation.specs.Sizes.{reach, component_most, Bounded}
use Rattle.rotation.proofs.Components.{three}
use Rattle.rotation.proofs.Sizes.{components-le}
use Rattle.polaris.specs.Apparent.{aberration_parts, plus}
use Rattle.polaris.proofs.plus.Goals as goal

-- ---- one component
sum_fits : (x a : ℤ) → nat_abs x ≤ component_most → nat_abs a ≤ aberration_parts → SFits w64 (x +ℤ a)
sum_fits x a = rw (split x, split a) (simp zs (omega arith))

longer : (x a : ℤ) → nat_abs x ≤ component_most → nat_abs a ≤ aberration_parts → nat_abs (x +ℤ a) * nat_abs (x +ℤ a) ≤ nat_abs x * nat_abs x + 3 * 10 ^ 14
longer x a h k = let l = sum x a k in omega (arith, mul-le-mul l l)
  where
    sum : (x a : ℤ) → nat_abs a ≤ aberration_parts → nat_abs (x +ℤ a) ≤ nat_abs x + aberration_parts
    sum x a = rw (split x, split a) (simp (zs, abs-dif) (omega arith))

-- ---- the three
module _ (d a : List ℤ) (l : length d ≡ 3) (k : length a ≡ 3) where
  plus-is : (nth d 0 +ℤ nth a 0) ∷ (nth d 1 +ℤ nth a 1) ∷ (nth d 2 +ℤ nth a 2) ∷ [] ≡ plus d a
  unfolding plus
  plus-is = sym (ap₂ plus (three (pos 0) d l) (three (pos 0) a k))

  plus-le : squared_length d ≤ reach → Bounded aberration_parts a → squared_length (plus d a) ≤ squared_length d + 9 * 10 ^ 14
  unfolding squared_length plus
  plus-le h b = rw (three (pos 0) d l, three (pos 0) a k) (omega (arith, part 0, part 1, part 2))
    where
      part : (i : ℕ) → nat_abs (nth d i +ℤ nth a i) * nat_abs (nth d i +ℤ nth a i) ≤ nat_abs (nth d i) * nat_abs (nth d i) + 3 * 10 ^ 14
      part i = longer (nth d i) (nth a i) (components-le d h i) (b i)

  fits : squared_length d ≤ reach → Bounded aberration_parts a → (i : ℕ) → SFits w64 (nth d i) × SFits w64 (nth a i) × SFits w64 (nth d i +ℤ nth a i)
  fits h b i =
      let n = components-le d h i in
      (fits_le component_most (nth d i) n refl, fits_le aberration_parts (nth a i) (b i) refl, sum_fits (nth d i) (nth a i) n (b i))

pub overflow_add-result : goal.overflow_add-result
overflow_add-result c =
    let f = fits c.args.d c.args.a (search rules) (search rules) c.requires.0 c.requires.1 0 in
    simp (to_z-of_z, f.0, f.1) f.2

pub overflow_add-result-2 : goal.overflow_add-result-2
overflow_add-result-2 c =
    let f = fits c.args.d c.args.a (search rules) (search rules) c.requires.0 c.requires.1 1 in
    simp (to_z-of_z, f.0, f.1) f.2

pub overflow_add-result-3 : goal.overflow_add-result-3
overflow_add-result-3 c =
    let f = fits c.args.d c.args.a (search rules) (search rules) c.requires.0 c.requires.1 2 in
    simp (to_z-of_z, f.0, f.1) f.2

pub returns : goal.returns
returns c =
    let d = c.args.d in
    let a = c.args.a in
    let l : length d ≡ 3 = search rules in
    let k : length a ≡ 3 = search rules in
    let f = fits d a l k c.requires.0 c.requires.1 in
    simp (to_z-of_z, (f 0).0, (f 0).1, (f 0).2, (f 1).0, (f 1).1, (f 1).2, (f 2).0, (f 2).1, (f 2).2)
    (rw (plus-is d a l k) (refl, plus-le d a l k c.requires.0 c.requires.1))
