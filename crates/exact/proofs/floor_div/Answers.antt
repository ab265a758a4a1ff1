-- With as many multiples of d as 2^62 holds the number is natural, and they are taken away from the quotient.
use mathlib.Core.Path.{◌≡◌, subst⁻¹}
use Prim.Native.Nat.{ℕ, ◌+◌, ◌*◌, ◌/◌, ◌%◌, ◌≤◌, ◌<◌, ◌^◌}
use native.Mathlib.Nat.{div-add-mod, mod-lt, div-le_self}
use native.Mathlib.Omega.{arith}
use lib.Dec.{T}
use lib.IntN.{ℤ, pos, negsuc, nat_abs, ◌+ℤ◌, ◌-ℤ◌, ◌*ℤ◌}
use lib.Signed.{non_neg, quot_z, ◌≤ℤ◌, ◌<ℤ◌, yes_non_neg, pos-nat_abs}
use mir.Facts.{to_z-of_z}
use mir.Syntax.{w64}
use mir.Val.{Fits, SFits}
use Rattle.exact.specs.Division.{floor_div}
use Rattle.exact.proofs.Differences.{split, zs, abs-dif}
use Rattle.exact.proofs.Division.{floor-offset}
use Rattle.exact.proofs.Machine.{to-nat}
use Rattle.exact.proofs.Quotient.{Positive, some, positive, floor-fits}
use Rattle.exact.proofs.floor_div.Goals.{Start}
use Rattle.exact.proofs.floor_div.Goals as goal

-- what is asked of the numbers, with k multiples of d more
record Lifted (a d k : ℤ) : Type 0 where
  times : SFits w64 k
  lift : SFits w64 (k *ℤ d)
  sum : SFits w64 (a +ℤ k *ℤ d)
  natural : pos 0 ≤ℤ (a +ℤ k *ℤ d)
  divisor : T (non_neg d) × Fits w64 (nat_abs d)
  nonzero : 0 < nat_abs d
  quotient : SFits w64 (pos (nat_abs (a +ℤ k *ℤ d) / nat_abs d))
  result : pos (nat_abs (a +ℤ k *ℤ d) / nat_abs d) -ℤ k ≡ floor_div a (nat_abs d)

lifted : (a d : ℤ) → pos 0 <ℤ d → nat_abs a + nat_abs d ≤ 2 ^ 62 → Lifted a d (quot_z (pos (2 ^ 62)) d)
lifted a d p = go (positive d p)
  where
    sizes : (a : ℤ) (n r m : ℕ) → m + r ≡ 2 ^ 62 → r < n → nat_abs a + n ≤ 2 ^ 62 → SFits w64 (a +ℤ pos m) × (pos 0 ≤ℤ (a +ℤ pos m))
    sizes a n r m = rw (split a) (simp (zs, abs-dif) (omega arith))

    small : (z : ℤ) (n : ℕ) → SFits w64 z → pos 0 ≤ℤ z → nat_abs z / n < 2 ^ 63
    small (pos m) n f h = omega (arith, div-le_self m n, f.sfits)
    small (negsuc m) n f h = absurd h.le

    go : {d : ℤ} → Positive d → nat_abs a + nat_abs d ≤ 2 ^ 62 → Lifted a d (quot_z (pos (2 ^ 62)) d)
    go (some n h) le =
        let k = 2 ^ 62 / n in
        let e = div-add-mod (2 ^ 62) n in
        let s = sizes a n (2 ^ 62 % n) (k * n) (omega arith) (mod-lt (2 ^ 62) h) le in
        record {
          times = record { sfits = omega (arith, div-le_self (2 ^ 62) n) };
          lift = record { sfits = omega arith };
          sum = s.0;
          natural = s.1;
          divisor = (tt, record { fits = omega arith });
          nonzero = h;
          quotient = record { sfits = small _ n s.0 s.1 };
          result = floor-offset a (pos k) _ n h (pos-nat_abs _ (yes_non_neg s.1));
        }

result_fits : (a d k : ℤ) → SFits w64 a → Lifted a d k → SFits w64 (pos (nat_abs (a +ℤ k *ℤ d) / nat_abs d) -ℤ k)
result_fits a d k f l = subst⁻¹ (SFits w64) l.result (floor-fits w64 a (nat_abs d) f)

known : (s : Start) → Lifted s.args.a s.args.d (quot_z (pos (2 ^ 62)) s.args.d)
known s = lifted s.args.a s.args.d s.requires.0 s.requires.1

pub overflow_cast-result : goal.overflow_cast-result
overflow_cast-result c = let k = known c in simp (to_z-of_z, c.ranges.a, c.ranges.d, k.times, k.lift, k.sum) (to-nat _ k.natural k.sum)

pub overflow_cast-result-3 : goal.overflow_cast-result-3
overflow_cast-result-3 c = let k = known c in simp (to_z-of_z, c.ranges.a, c.ranges.d, k.times, k.lift, k.sum) k.quotient

pub overflow_sub-result : goal.overflow_sub-result
overflow_sub-result c = let k = known c in simp (to_z-of_z, c.ranges.a, c.ranges.d, k.times, k.lift, k.sum, k.quotient) (result_fits _ _ _ c.ranges.a k)

pub returns : goal.returns
returns c = let k = known c in simp (to_z-of_z, c.ranges.a, c.ranges.d, k.times, k.lift, k.sum, k.quotient, result_fits _ _ _ c.ranges.a k) k.result
