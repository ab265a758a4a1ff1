-- Where in a step a vector's angle lies. In step n both sides of the test are straight lines up to a rounding each: x·Sin rises from x·s to x·s', y·Cos falls
-- from y·c to y·c'. At the start y·Cos is ahead by `gap`; over the step the two come nearer by `slope`. The roundings leave the test open while the two are
-- less than (x + y) / 2 apart, 2.95 units of the step at most; so four units are enough to have the last that passes.
use mathlib.Core.Path.{◌≡◌, sym, ap, ◌∙◌}
use mathlib.Core.Bool.{true, false}
use mathlib.Core.Logic.{⊎_elim}
use Prim.Native.Nat.{ℕ, suc, ◌+◌, ◌-◌, ◌*◌, ◌/◌, ◌≤◌, ◌<◌, min}
use native.Mathlib.Nat.{mul-le-mul_left, le_of_mul-le-mul_left, lt_of_mul-lt-mul_left, eq-zero-or-pos, add-zero, min-eq_left, min-eq_right}
use native.Mathlib.Omega.{arith}
use lib.Dec.{lit<}
use Rattle.std.proofs.lemmas.Bool.{cases_lt}
use borrow.Author.Tests.{le-leb, lt-leb, leb-true, leb-false}
use Rattle.exact.specs.Largest.{Among}
use Rattle.exact.proofs.Division.{Rounds, rounds}
use Rattle.sine_table.specs.Step.{step}
use Rattle.sine_table.specs.Table.{entry_at, step_count}
use Rattle.vector_angle.specs.VectorAngle.{passes, start_passes, IsStep, unit_passes}
use Rattle.sine_table.proofs.TableRule.{StepLaw, step-law}
use Rattle.vector_angle.proofs.Passing.{start_is, unit_is}

-- ---- in plain numbers, for any step w

-- S is X / w and C is Y / w, to nearest; so twice w times x·S is at most x·w from twice x·X, and likewise y·C
module _ (w x y X Y S C : ℕ) (a : Rounds X w S) (b : Rounds Y w C) where
  surely-passes : 0 < w → 2 * (x * X) + (x + y) * w ≤ 2 * (y * Y) → x * S ≤ y * C
  surely-passes some h =
      let up : 2 * Y ≤ 2 * w * C + w = omega arith in
      le_of_mul-le-mul_left {k = 2 * w} (omega (arith, mul-le-mul_left x a.0, mul-le-mul_left y up)) (omega arith)

  surely-fails : 2 * (y * Y) + (x + y) * w < 2 * (x * X) → y * C < x * S
  surely-fails h =
      let up : 2 * X ≤ 2 * w * S + w = omega arith in
      lt_of_mul-lt-mul_left (2 * w) (omega (arith, mul-le-mul_left y b.0, mul-le-mul_left x up))

-- the lines r units into the step and u before its end: s rises by p, c falls by q
module _ (w x y s p c' q g r u : ℕ) (parts : u + r ≡ w) (ahead : y * (c' + q) ≡ x * s + g) where
  abbrev X : ℕ
  X = s * u + (s + p) * r

  abbrev Y : ℕ
  Y = c' * r + (c' + q) * u

  apart : y * Y + (x * p + y * q) * r ≡ x * X + g * w
  apart = omega (arith, ap (λ (k : ℕ). k * r) ahead, ap (λ (k : ℕ). k * u) ahead, ap (λ (k : ℕ). g * k) parts)

-- so far they come nearer as one is ahead at the start and behind at the end
nearer-by : (x y s p c' q g h : ℕ) → y * (c' + q) ≡ x * s + g → x * (s + p) ≡ y * c' + h → x * p + y * q ≡ g + h
nearer-by x y s p c' q g h ahead behind = omega arith

-- the vector lies between the ends of the step, g ahead at its start and h behind at its end, so it is made up of both ends
module _ (w x y s c s' c' g h d : ℕ) (ahead : y * c ≡ x * s + g) (behind : x * s' ≡ y * c' + h) (turned : c * s' ≡ s * c' + d) where
  first : d * x ≡ h * c + g * c'
  first = omega (arith, ap (λ (k : ℕ). k * c') ahead, ap (λ (k : ℕ). k * c) behind, ap (λ (k : ℕ). k * x) turned)

  second : d * y ≡ h * s + g * s'
  second = omega (arith, ap (λ (k : ℕ). k * s') ahead, ap (λ (k : ℕ). k * s) behind, ap (λ (k : ℕ). k * y) turned)

  -- what holds at both ends holds for it
  both : 0 < d → 20 * (w * (s + c)) ≤ 59 * d → 20 * (w * (s' + c')) ≤ 59 * d → 20 * (w * (x + y)) ≤ 59 * (g + h)
  both some e e' =
      le_of_mul-le-mul_left {k = d}
      (omega (arith, ap (λ (k : ℕ). w * k) first, ap (λ (k : ℕ). w * k) second, mul-le-mul_left h e, mul-le-mul_left g e')) some

-- ---- in step n, in which the test comes to fail: s rises by p, c falls by q
module _ (x y n s c p q : ℕ) (e : IsStep n s c p q) (a : Among (start_passes x y) n 1 step_count) where
  abbrev gap : ℕ
  gap = y * c - x * s

  abbrev slope : ℕ
  slope = x * p + y * q

  -- how far y·Cos is behind at the end
  abbrev lag : ℕ
  lag = x * (s + p) - y * (c - q)

  below : n < step_count
  below = omega (arith, a.within)

  next-cosine : c - q ≡ entry_at (step_count - n - 1)
  next-cosine = omega (arith, e.next-cosine)

  down : c - q + q ≡ c
  down = omega (arith, e.next-cosine)

  pub starts : x * s ≤ y * c
  starts = rw (e.sine, e.cosine) (leb-true _ _ (sym (start_is x y n (omega (arith, below))) ∙ a.yes))

  ends : y * (c - q) < x * (s + p)
  ends =
      let before : step_count - n - 1 ≡ step_count - (n + 1) = omega arith in
      rw (e.next-sine, next-cosine, before) (leb-false _ _ (sym (start_is x y (n + 1) (omega (arith, below))) ∙ a.no))

  ahead : y * c ≡ x * s + gap
  ahead = omega (arith, starts)

  behind : x * (s + p) ≡ y * (c - q) + lag
  behind = omega (arith, ends)

  slope-is : slope ≡ gap + lag
  slope-is = nearer-by x y s p (c - q) q gap lag (rw down ahead) behind

  pub gap-le : gap ≤ slope
  gap-le = omega (arith, slope-is)

  pub slope-some : 0 < slope
  slope-some = omega (arith, slope-is, ends)

  -- the law of the table's step, and of the step mirrored at the middle of the quadrant, where sines and cosines are exchanged
  steps : StepLaw s (s + p) (c - q) c × StepLaw (c - q) c s (s + p)
  steps =
      let low = below in
      let m = step_count - n - 1 in
      let next : n + 1 ≡ suc n = omega arith in
      let last : suc m ≡ step_count - n = omega arith in
      rw (next-cosine, e.next-sine, e.sine, e.cosine, next) (rw last at (step-law n m (omega arith)), rw last at (step-law m n (omega arith)))

  -- the slope is at most half the step times x + y, and more than a third of it
  pub slope-most : slope ≤ (x + y) * (step / 2)
  slope-most =
      let rise : p ≤ step / 2 = omega (arith, steps.0.gentle) in
      let fall : q ≤ step / 2 = omega (arith, steps.1.gentle, down) in
      omega (arith, mul-le-mul_left x rise, mul-le-mul_left y fall)

  slope-least : 20 * (step * (x + y)) ≤ 59 * slope
  slope-least =
      let s' = s + p in
      let c' = c - q in
      let some : 0 < s' = ⊎_elim (λ z. absurd (omega (arith, ends, ap (λ (k : ℕ). x * k) z))) (λ k. k) (eq-zero-or-pos s') in
      let d = c * s' - s * c' in
      rw slope-is
      (both step x y s c s' c' gap lag d ahead behind (omega (arith, steps.0.steep)) (omega (arith, steps.1.steep)) (omega (arith, steps.0.steep)) (omega (arith, steps.1.steep)))

  -- both lines, r units into the step, times the step
  abbrev rising : ℕ → ℕ
  rising r = s * (step - r) + (s + p) * r

  abbrev falling : ℕ → ℕ
  falling r = (c - q) * (step - (step - r)) + c * (step - r)

  line : (r : ℕ) → r ≤ step → y * falling r + slope * r ≡ x * rising r + gap * step
  line r h =
      let back : step - (step - r) ≡ r = omega arith in
      rw back (rw down at (apart step x y s p (c - q) q gap r (step - r) (omega arith) (rw down ahead)))

  passes_at : (r : ℕ) → r ≤ step → 2 * (slope * r) + (x + y) * step ≤ 2 * (gap * step) → unit_passes x y n r ≡ true
  passes_at r h k =
      unit_is n s c p q r below e h x y
      ∙ le-leb _ _ (surely-passes step x y (rising r) (falling r) _ _ (rounds (rising r) (lit< tt)) (rounds (falling r) (lit< tt)) (lit< tt) (omega (arith, line r h)))

  fails-at : (r : ℕ) → r ≤ step → 2 * (gap * step) + (x + y) * step < 2 * (slope * r) → unit_passes x y n r ≡ false
  fails-at r h k =
      unit_is n s c p q r below e h x y
      ∙ lt-leb _ _ (surely-fails step x y (rising r) (falling r) _ _ (rounds (rising r) (lit< tt)) (rounds (falling r) (lit< tt)) (omega (arith, line r h)))

  -- ---- four units among which is the last that passes
  abbrev Window : ℕ → Type 0
  Window r = Among (unit_passes x y n) r 4 step

  -- at the start of the step
  pub at-start : 2 * gap < x + y → Window 0
  at-start h =
      record {
        within = omega arith;
        yes = ap (passes x y) (add-zero (step * n)) ∙ a.yes;
        no = fails-at 4 (omega arith) (omega (arith, slope-least));
      }

  -- at r, the share of half a step that twice the gap less x + y is of the slope; or at the last four units, where r is beyond the first of them
  module _ (r : ℕ) (h : x + y ≤ 2 * gap) (least : r * slope ≤ (2 * gap - (x + y)) * (step / 2)) where
    before-end : step - 4 ≤ r → Window (step - 4)
    before-end k =
        let end : step * (n + 1) ≡ step * n + (step - 4 + 4) = omega arith in
        record {
          within = omega arith;
          yes = passes_at (step - 4) (omega arith) (omega (arith, mul-le-mul_left slope k, least));
          no = ap (passes x y) (sym end) ∙ a.no;
        }

    module _ (most : 20 * ((2 * gap - (x + y)) * (step / 2)) < (20 * r + 21) * slope) where
      inside : r < step - 4 → Window r
      inside k =
          record {
            within = omega arith;
            yes = passes_at r (omega arith) (omega (arith, least));
            no = fails-at (r + 4) (omega arith) (omega (arith, most, slope-least));
          }

      pub at-share : Window (min r (step - 4))
      at-share =
          ⊎_elim (λ (k : r < step - 4). let l : r ≤ step - 4 = omega arith in rw min-eq_left (inside k))
          (λ (k : step - 4 ≤ r). rw min-eq_right (before-end k))
          (cases_lt r (step - 4))
