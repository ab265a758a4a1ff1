-- c is whole centuries and a rest, and the floor of the rest's product moves by the product of the whole ones.
use mathlib.Core.Path.{◌≡◌, refl, sym, ap, ap₂, ◌∙◌}
use Prim.Native.Nat.{ℕ, ◌*◌, ◌/◌, ◌≤◌, ◌<◌, ◌^◌}
use native.Mathlib.Nat.{le_of_lt}
use native.Mathlib.Omega.{arith}
use lib.Dec.{lit<}
use lib.IntN.{ℤ, pos, nat_abs, ◌+ℤ◌, ◌*ℤ◌}
use lib.Signed.{◌≤ℤ◌, yes_non_neg, pos-nat_abs}
use mir.Facts.{to_z-of_z}
use mir.Syntax.{w64}
use mir.Val.{SFits}
use Rattle.exact.specs.Division.{floor_div}
use Rattle.exact.specs.Century.{century}
use Rattle.exact.proofs.Differences.{split, zs}
use Rattle.exact.proofs.Division.{floor-add}
use Rattle.exact.proofs.Integers.{abs-*-le}
use Rattle.exact.proofs.Machine.{fits_le}
use Rattle.exact.proofs.per_century.Goals.{After-rest_per_century, Start}
use Rattle.exact.proofs.per_century.Goals as goal

-- ---- of any numbers
law : (a b n : ℤ) → pos 0 ≤ℤ b → pos 0 ≤ℤ n → pos (nat_abs b * nat_abs n / century) +ℤ a *ℤ n ≡ floor_div ((pos century *ℤ a +ℤ b) *ℤ n) century
unfolding floor_div
law a b n h k =
    ap₂ (λ (z m : ℤ). floor_div (z *ℤ m) century +ℤ a *ℤ n) (pos-nat_abs b (yes_non_neg h)) (pos-nat_abs n (yes_non_neg k))
    ∙ sym (floor-add (b *ℤ n) (a *ℤ n) century (lit< tt)) ∙ ap (λ (z : ℤ). floor_div z century) (back a b n)
  where
    back : (a b n : ℤ) → b *ℤ n +ℤ pos century *ℤ (a *ℤ n) ≡ (pos century *ℤ a +ℤ b) *ℤ n
    back a b n = rw (split a, split b, split n) (simp zs (omega arith))

sum_fits : (r : ℕ) (z : ℤ) → r < 2 ^ 43 → nat_abs z ≤ 12 * 2 ^ 43 → SFits w64 (pos r +ℤ z)
sum_fits r z = rw (split z) (simp zs (omega arith))

-- ---- what is known
module _ (s : Start) where
  abbrev whole : ℤ
  whole = s.args.whole

  abbrev n : ℤ
  n = s.args.n

  product_le : nat_abs (whole *ℤ n) ≤ 12 * 2 ^ 43
  product_le = abs-*-le whole n 12 (2 ^ 43) s.requires.0 (le_of_lt s.requires.2.1)

  product-fits : SFits w64 (whole *ℤ n)
  product-fits = fits_le (12 * 2 ^ 43) _ product_le refl

module _ (y : After-rest_per_century) where
  abbrev start : Start
  start = y.before

  abbrev r : ℕ
  r = y.rest_per_century.result

  called : (r ≡ nat_abs start.args.rest * nat_abs (n start) / century) × (r ≤ nat_abs (n start))
  called = simp (to_z-of_z, start.ranges.rest, start.ranges.n) at y.rest_per_century.ensures

  small : r < 2 ^ 43
  small = omega (arith, called.1, start.requires.2.1)

  r-fits : SFits w64 (pos r)
  r-fits = record { sfits = omega (arith, small) }

  result-is : pos r +ℤ whole start *ℤ n start ≡ floor_div ((pos century *ℤ whole start +ℤ start.args.rest) *ℤ n start) century
  result-is = ap (λ (k : ℕ). pos k +ℤ whole start *ℤ n start) called.0 ∙ law (whole start) start.args.rest (n start) start.requires.1.0 start.requires.2.0

  result_fits : SFits w64 (pos r +ℤ whole start *ℤ n start)
  result_fits = sum_fits r (whole start *ℤ n start) small (product_le start)

pub returns : goal.returns
returns y = let s = y.before in simp (to_z-of_z, s.ranges.whole, s.ranges.n, product-fits s, r-fits y, result_fits y) (result-is y)
