-- The linear part by N and the rest by q, for any stored row of the sizes stated.
use mathlib.Core.Path.{◌≡◌, refl, ap₂, subst, subst⁻¹, ◌∙◌}
use mathlib.Core.List.{List}
use Prim.Native.Nat.{◌*◌, ◌≤◌, ◌<◌, ◌^◌}
use native.Mathlib.Omega.{arith}
use lib.Dec.{lit<}
use lib.IntN.{ℤ, pos, nat_abs, ◌+ℤ◌, ◌*ℤ◌}
use mir.Facts.{to_z-of_z}
use mir.Syntax.{w64}
use mir.Val.{SFits}
use borrow.Author.Rules.{rules}
use Rattle.exact.specs.Reduction.{reduced}
use Rattle.exact.specs.Century.{century}
use Rattle.exact.specs.Division.{floor_div}
use Rattle.exact.specs.Nth.{nth}
use Rattle.exact.proofs.Differences.{split, zs}
use Rattle.exact.proofs.Division.{floor-abs}
use Rattle.exact.proofs.Integers.{abs-*-lt}
use Rattle.exact.proofs.Machine.{ok-fits, fits_lt, fits_le}
use Rattle.secular.specs.FlooredPolynomial.{polynomial, value}
use Rattle.secular.specs.Sizes as Secular
use Rattle.epoch.specs.Epoch.{Epoch}
use Rattle.epoch.proofs.Sizes.{n-size, q-size, n-fits, q-fits}
use Rattle.arguments.specs.Argument.{argument}
use Rattle.arguments.specs.Rows.{coefficients}
use Rattle.arguments.specs.Sizes.{RowSized}
use Rattle.arguments.proofs.argument.Goals.{After-value}
use Rattle.arguments.proofs.argument.Goals as goal

-- ---- over plain numbers
linear-le : (a b n : ℤ) → nat_abs a ≤ 12 → nat_abs b < century → nat_abs n < 2 ^ 43 → nat_abs (floor_div ((pos century *ℤ a +ℤ b) *ℤ n) century) ≤ 2 ^ 49
linear-le a b n h k l =
    let c = pos century *ℤ a +ℤ b in
    floor-abs (c *ℤ n) century (2 ^ 49) (lit< tt) (omega (arith, abs-*-lt c n (2 ^ 46) (2 ^ 43) (small a b h k) l))
  where
    small : (a b : ℤ) → nat_abs a ≤ 12 → nat_abs b < century → nat_abs (pos century *ℤ a +ℤ b) < 2 ^ 46
    small a b = rw (split a, split b) (simp zs (omega arith))

sum-in : (a b : ℤ) → nat_abs a ≤ 2 ^ 49 → nat_abs b ≤ 2 ^ 42 → SFits w64 (a +ℤ b) × (nat_abs (a +ℤ b) ≤ 2 ^ 61)
sum-in a b = rw (split a, split b) (simp zs (omega arith))

-- c0 and c2 as secular takes them
rest-sized : (row : List ℤ) → RowSized row → Secular.Sized (polynomial (nth row 0) (pos 0) (nth row 3) (10 ^ 12))
rest-sized row h = record { c0 = h.c0; c1 = omega arith; c2 = h.c2; low = search rules; high = search rules }

-- ---- what is known on the way
module _ (row : List ℤ) (h : RowSized row) where
  fit : SFits w64 (nth row 0) × SFits w64 (nth row 1) × SFits w64 (nth row 2) × SFits w64 (nth row 3)
  fit = (
    fits_le (2 ^ 40) (nth row 0) h.c0 refl,
    fits_le 12 (nth row 1) h.whole refl,
    fits_lt century (nth row 2) h.rest refl,
    fits_le (2 * 10 ^ 6) (nth row 3) h.c2 refl,
  )

module _ (c : After-value) where
  abbrev row : List ℤ
  row = c.args.row

  abbrev linear : ℤ
  linear = c.per_century.result

  linear-is : linear ≡ floor_div ((pos century *ℤ nth row 1 +ℤ nth row 2) *ℤ c.e.inside.n) century
  linear-is = let f = fit row c.requires in simp (to_z-of_z, f.1, f.2, n-fits c.e.invariant) at c.per_century.ensures

  rest-is : c.value.result ≡ value (polynomial (nth row 0) (pos 0) (nth row 3) (10 ^ 12)) c.e.inside.q
  rest-is = let f = fit row c.requires in simp (to_z-of_z, f.0, f.3, q-fits c.e.invariant) at c.value.ensures.0

  both-fit : SFits w64 linear × SFits w64 c.value.result
  both-fit = (ok-fits linear c.per_century.type_inv, ok-fits c.value.result c.value.type_inv)

  sum : SFits w64 (linear +ℤ c.value.result) × (nat_abs (linear +ℤ c.value.result) ≤ 2 ^ 61)
  unfolding Secular.most
  sum =
      let h = c.requires in
      let f = fit row h in
      let l = linear-le (nth row 1) (nth row 2) c.e.inside.n h.whole h.rest (n-size c.e.invariant) in
      let v = simp (to_z-of_z, f.0, f.3) at c.value.ensures.1 in
      sum-in linear c.value.result (subst⁻¹ (λ (z : ℤ). nat_abs z ≤ 2 ^ 49) linear-is l) (omega (arith, v, h.c0, h.c2))

pub value-requires : goal.value-requires
value-requires c =
    let f = fit c.args.row c.requires in
    simp (to_z-of_z, f.0, f.3, q-fits c.e.invariant) (rest-sized c.args.row c.requires, q-size c.e.invariant)

pub overflow_add-per_century : goal.overflow_add-per_century
overflow_add-per_century c = let d = (goal.at.overflow_add-per_century c).After-value in simp (to_z-of_z, (both-fit d).0, (both-fit d).1) (sum d).0

pub reduced_bounded-requires : goal.reduced_bounded-requires
reduced_bounded-requires c = let d = (goal.at.reduced_bounded-requires c).After-value in simp (to_z-of_z, (both-fit d).0, (both-fit d).1, (sum d).0) (sum d).1

pub returns : goal.returns
unfolding argument
returns c =
    let d = (goal.at.returns c).After-value in
    let e = simp (to_z-of_z, (both-fit d).0, (both-fit d).1, (sum d).0) at c.reduced_bounded.ensures.0 in
    let is = e ∙ ap₂ (λ (a b : ℤ). reduced (a +ℤ b)) (linear-is d) (rest-is d) in
    (subst (λ (e : Epoch). c.reduced_bounded.result ≡ argument (coefficients c.args.row) e) c.e.view_is is, c.reduced_bounded.ensures.1)
