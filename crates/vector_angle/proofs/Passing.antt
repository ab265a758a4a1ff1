-- The test of an angle of the first quadrant. It passes at 0, and fails above every angle where it fails; so the largest that passes can be searched
-- for, and found in two stages, the table's step and the unit in it. At the start of a step the test has the table's entries alone.
use mathlib.Core.Path.{◌≡◌, refl, sym, ap, ap₂, ◌∙◌}
use mathlib.Core.Bool.{Bool, true, false}
use Prim.Native.Nat.{ℕ, suc, ◌+◌, ◌-◌, ◌*◌, ◌≤◌, ◌<◌, zero-le}
use native.Mathlib.Nat.{mul-le-mul_left, le_trans, mul-zero}
use native.Mathlib.Omega.{arith}
use lib.Dec.{lit<, leb}
use lib.IntN.{pos, ◌*ℤ◌}
use lib.Signed.{le_z}
use borrow.Author.Tests.{le-leb, lt-leb, leb-true}
use Rattle.exact.specs.Reduction.{Q}
use Rattle.exact.specs.Largest.{Among}
use Rattle.exact.proofs.Largest.{largest-is, FailsOn, by-steps, among_one}
use Rattle.sine_table.specs.Step.{step}
use Rattle.sine_table.specs.Table.{R, entry_at, step_count}
use Rattle.sine.specs.Sine.{interpolated, sin_quadrant}
use Rattle.vector_angle.specs.VectorAngle.{passes, quadrant_angle, start_passes, last_step, IsStep, unit_passes, last_unit}
use Rattle.sine_table.proofs.TableRule.{entry_first, entry-last}
use Rattle.sine.proofs.Quadrant.{sin-zero, at_entry, sin-at}
use Rattle.sine.proofs.Extension.{sin-1, cos-1}
use Rattle.sine.proofs.Monotonicity.{sin-climbs}

passes-is : (x y a : ℕ) → a ≤ Q → passes x y a ≡ leb (x * sin_quadrant a) (y * sin_quadrant (Q - a))
unfolding passes
passes-is x y a h = λ i. le_z (pos x *ℤ sin-1 a h i) (pos y *ℤ cos-1 a h i)

passes-zero : (x y : ℕ) → passes x y 0 ≡ true
passes-zero x y = passes-is x y 0 zero-le ∙ rw (sin-zero, mul-zero) (le-leb 0 (y * sin_quadrant Q) zero-le)

-- it passes at every smaller angle
passes-below : (x y a b : ℕ) → a ≤ b → b ≤ Q → passes x y b ≡ true → passes x y a ≡ true
passes-below x y a b h k p =
    passes-is x y a (omega arith)
    ∙ le-leb _ _
    (le_trans (mul-le-mul_left x (sin-climbs a b h k))
    (le_trans (leb-true _ _ (sym (passes-is x y b k) ∙ p))
    (mul-le-mul_left y (sin-climbs (Q - b) (Q - a) (omega arith) (omega arith)))))

fails-above : (x y : ℕ) → FailsOn (passes x y) Q
fails-above x y a b h k p = by (passes x y b) refl
  where
    by : (t : Bool) → passes x y b ≡ t → t ≡ false
    by true e = sym (passes-below x y a b h k e) ∙ p
    by false e = refl

-- an angle that passes, where the next fails or is Q, is the largest
pub quadrant-angle-is : (x y a : ℕ) → a < Q → passes x y a ≡ true → (suc a < Q → passes x y (suc a) ≡ false) → quadrant_angle x y ≡ a
unfolding quadrant_angle
quadrant-angle-is x y a h t f = largest-is (passes x y) Q a h t (λ b u v. fails-above x y (suc a) b u (omega arith) (f (omega arith)))

-- ---- the starts of the steps

pub start_is : (x y n : ℕ) → n ≤ step_count → start_passes x y n ≡ leb (x * entry_at n) (y * entry_at (step_count - n))
start_is x y n h =
    let rest : Q - step * n ≡ step * (step_count - n) = omega arith in
    passes-is x y (step * n) (omega arith)
    ∙ ap₂ (λ (s c : ℕ). leb (x * s) (y * c)) (at_entry n h) (ap sin_quadrant rest ∙ at_entry (step_count - n) (omega arith))

pub start-zero : (x y : ℕ) → start_passes x y 0 ≡ true
start-zero x y = passes-zero x y

-- at the end of the quadrant the sine is R and the cosine 0
pub end-fails : (x y : ℕ) → 0 < x → start_passes x y step_count ≡ false
end-fails x y h = start_is x y step_count (omega arith) ∙ rw (entry-last, entry_first, mul-zero) (lt-leb (x * R) 0 (omega arith))

pub starts-fail : (x y : ℕ) → FailsOn (start_passes x y) step_count
starts-fail x y a b h k = fails-above x y (step * a) (step * b) (omega arith) (omega arith)

-- ---- the units of a step

-- r units into it, by the lines through its ends
module _ (n s c p q r : ℕ) (below : n < step_count) (e : IsStep n s c p q) (h : r ≤ step) where
  sine-is : interpolated s (s + p) r ≡ sin_quadrant (step * n + r)
  sine-is =
      let next : n + 1 ≡ suc n = omega arith in
      (λ i. interpolated (e.sine i) ((e.next-sine ∙ ap entry_at next) i) r) ∙ sym (sin-at n (step - r) r (omega arith) below)

  cosine-is : interpolated (c - q) c (step - r) ≡ sin_quadrant (Q - (step * n + r))
  cosine-is =
      let m = step_count - n - 1 in
      let rest : Q - (step * n + r) ≡ step * m + (step - r) = omega arith in
      let first : step_count - n ≡ suc m = omega arith in
      let low : c - q ≡ entry_at m = omega (arith, e.next-cosine) in
      (λ i. interpolated (low i) ((e.cosine ∙ ap entry_at first) i) (step - r)) ∙ sym (sin-at m (step - (step - r)) (step - r) (omega arith) (omega arith)) ∙ ap sin_quadrant (sym rest)

  pub unit_is : (x y : ℕ) → unit_passes x y n r ≡ leb (x * interpolated s (s + p) r) (y * interpolated (c - q) c (step - r))
  unit_is x y =
      passes-is x y (step * n + r) (omega arith) ∙ ap₂ (λ (s c : ℕ). leb (x * s) (y * c)) (sym sine-is) (sym cosine-is)

pub units-fail : (x y n : ℕ) → n < step_count → FailsOn (unit_passes x y n) step
units-fail x y n l a b h k = fails-above x y (step * n + a) (step * n + b) (omega arith) (omega arith)

-- a unit that is left alone is the last that passes
pub only_unit : (x y n r : ℕ) → n < step_count → Among (unit_passes x y n) r 1 step → (r ≡ last_unit x y n) × (r < step)
unfolding last_unit
only_unit x y n r below found = (sym (among_one (unit_passes x y n) r step (units-fail x y n below) found), omega (arith, found.within))

-- ---- both stages

pub two-stages : (x y : ℕ) → quadrant_angle x y ≡ step * last_step x y + last_unit x y (last_step x y)
unfolding quadrant_angle last_step last_unit
two-stages x y = by-steps (passes x y) step step_count (lit< tt) (lit< tt) (fails-above x y) (passes-zero x y)

-- for an attribute of the code, which takes no dash
pub ruleset stages = (two-stages)
