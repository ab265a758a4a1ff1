-- One fact over all angles, for rotations: Sin(a)² + Cos(a)² lies between R² − 23.88·R and R² + 2.704·R, which is below (R + 2)². At the table's angles it is what antt
-- computes of every step (`step-law`); between them a sum of two squares along a chord (`Squares`); in the other quadrants Sin and Cos are those of the first,
-- up to their signs. The largest sum is R² + 2.601·R, at 1,383,599,975, and the smallest R² − 23.725·R, at 1,180,502,845.
use mathlib.Core.Path.{◌≡◌, sym}
use Prim.Native.Nat.{ℕ, suc, ◌+◌, ◌-◌, ◌*◌, ◌≤◌, ◌<◌}
use native.Mathlib.Nat.{le_trans, add-sub_of_le}
use native.Mathlib.Omega.{arith}
use lib.Dec.{lit<, lit≤}
use lib.IntN.{nat_abs}
use Rattle.exact.specs.Reduction.{Q, turn}
use Rattle.exact.proofs.Division.{Rounds, rounds}
use Rattle.exact.proofs.Products.{twice, root-le}
use Rattle.sine_table.specs.Step.{step}
use Rattle.sine_table.specs.Table.{R, entry_at, step_count}
use Rattle.sine_table.proofs.StepFigures.{squares_below, squared_chord}
use Rattle.sine_table.proofs.TableRule.{StepLaw, step-law}
use Rattle.sine.specs.Sine.{sin_quadrant, Sin, Cos}
use Rattle.sine.specs.SineContract.{circle_least, circle_most, OnCircle}
use Rattle.sine.proofs.Quadrant.{mix, sin-at, in-interval}
use Rattle.sine.proofs.Extension.{folded}
use Rattle.sine.proofs.Squares.{above, below}

-- ---- on 0..Q

-- a sine and a cosine together are at most √2·R, and a little more
sum-le : (S C : ℕ) → S * S + C * C ≤ circle_most → S + C ≤ 1_414_300_000
sum-le S C h = root-le (S + C) 1_414_300_000 (omega (arith, twice S C))

-- in an interval: the entries m + 1 and m mirror n and n + 1
module _ (n m u v : ℕ) (parts : u + v ≡ step) (mirror : suc (n + m) ≡ step_count) where
  here : StepLaw (entry_at n) (entry_at (suc n)) (entry_at m) (entry_at (suc m))
  here = step-law n m mirror

  there : StepLaw (entry_at m) (entry_at (suc m)) (entry_at n) (entry_at (suc n))
  there = step-law m n (omega arith)

  abbrev S : ℕ
  S = mix n u v

  abbrev C : ℕ
  C = mix m v u

  S-rounds : Rounds (entry_at n * u + entry_at (suc n) * v) step S
  S-rounds = rounds (entry_at n * u + entry_at (suc n) * v) (lit< tt)

  C-rounds : Rounds (entry_at m * v + entry_at (suc m) * u) step C
  C-rounds = rounds (entry_at m * v + entry_at (suc m) * u) (lit< tt)

  most : S * S + C * C ≤ circle_most
  most =
      above step u v (entry_at n) (entry_at (suc n)) (entry_at m) (entry_at (suc m)) S C (lit< tt) parts S-rounds C-rounds circle_most
      here.most (omega (arith, there.most))

  least : circle_least ≤ S * S + C * C
  least =
      room (S * S + C * C) (S + C) _
      (below step u v (entry_at n) (entry_at (suc n)) (entry_at m) (entry_at (suc m)) S C (lit< tt) parts S-rounds C-rounds (R * R - squares_below)
      (entry_at (suc n) - entry_at n) (entry_at (suc m) - entry_at m) (sym (add-sub_of_le here.rises)) (sym (add-sub_of_le there.rises))
      (omega (arith, here.least)) (omega (arith, there.least)))
      (sum-le S C most) here.chord
    where
      room : (W T D : ℕ) → 4 * (R * R - squares_below) ≤ 4 * W + 4 * T + 2 + D → T ≤ 1_414_300_000 → D ≤ squared_chord → circle_least ≤ W
      room W T D h k p = omega arith

  interval-at : (a : ℕ) → a ≡ step * n + v → OnCircle (sin_quadrant a) (sin_quadrant (Q - a))
  interval-at a is =
      let e : Q - (step * n + v) ≡ step * m + u = omega arith in
      rw (is, e, sin-at n u v parts (omega arith), sin-at m v u (omega arith) (omega arith)) (record { least = least; most = most })

quadrant : (a : ℕ) → a ≤ Q → OnCircle (sin_quadrant a) (sin_quadrant (Q - a))
quadrant a h = let p = in-interval a h in interval-at p.n (step_count - suc p.n) p.u p.v p.parts (omega arith) a p.is

-- ---- over the turn
pub pythagoras : (a : ℕ) → a < turn → OnCircle (nat_abs (Sin a)) (nat_abs (Cos a))
pythagoras a h = let f = folded a h in rw (f.sin, f.cos) (quadrant f.b f.within)

-- by a square
pub sin-cos-within : (a : ℕ) → a < turn → nat_abs (Sin a) * nat_abs (Sin a) + nat_abs (Cos a) * nat_abs (Cos a) ≤ (R + 2) * (R + 2)
sin-cos-within a h = le_trans (pythagoras a h).most (lit≤ tt)
