-- Document 01, "The sine" (RULES.md, "The sine"): the angle of a vector (x, y), counted from x toward y.
use Rattle.std.specs.Prelude.{◌≡◌, Bool, ℕ, zero, suc, ◌+◌, ◌-◌, ◌*◌, ◌≤◌, ℤ, pos, negsuc, ◌*ℤ◌}
use Rattle.std.specs.Int.Signed.{le_z}
use Rattle.exact.specs.Reduction.{Q}
use Rattle.exact.specs.Largest.{largest}
use Rattle.sine_table.specs.Step.{step}
use Rattle.sine_table.specs.Table.{R, entry_at, step_count}
use Rattle.sine.specs.Sine.{Sin, Cos}

-- whether the vector lies at the angle a or beyond: x·Sin(a) ≤ y·Cos(a)
unfoldable pub passes : ℕ → ℕ → ℕ → Bool
passes x y a = le_z (pos x *ℤ Sin a) (pos y *ℤ Cos a)

-- of a vector of the first quadrant: the largest angle below Q that passes
unfoldable pub quadrant_angle : ℕ → ℕ → ℕ
quadrant_angle x y = largest (passes x y) Q

-- ---- document 02, request 2: the same in two stages (law `two-stages`)

-- whether the start of the table's step n passes, and the last step whose start does
abbrev pub start_passes : ℕ → ℕ → ℕ → Bool
start_passes x y n = passes x y (step * n)

unfoldable pub last_step : ℕ → ℕ → ℕ
last_step x y = largest (start_passes x y) step_count

-- whether the angle r units into step n passes, and the last of the step that does
abbrev pub unit_passes : ℕ → ℕ → ℕ → ℕ → Bool
unit_passes x y n r = passes x y (step * n + r)

unfoldable pub last_unit : ℕ → ℕ → ℕ → ℕ
last_unit x y n = largest (unit_passes x y n) step

-- of the sine s and the cosine c at the start of step n, the sine's rise and the cosine's fall to its end: they are by the entries there, none beyond R
pub record IsStep (n s c rise fall : ℕ) : Type 0 where
  pub sine : s ≡ entry_at n
  pub cosine : c ≡ entry_at (step_count - n)
  pub next-sine : s + rise ≡ entry_at (n + 1)
  pub next-cosine : c ≡ entry_at (step_count - n - 1) + fall
  pub sine-range : s + rise ≤ R
  pub cosine-range : c ≤ R

-- ---- of any vector

-- 0 for no direction at all; any other vector is rotated back by quadrants into the first, and these are added again. A negative number is written
-- −(n + 1), `negsuc n`, and one above 0 is `pos (suc n)`.
unfoldable pub angle : ℤ → ℤ → ℕ
angle (pos zero) (pos zero) = 0
angle (pos (suc x)) (pos y) = quadrant_angle (suc x) y
angle (pos zero) (pos (suc y)) = Q + quadrant_angle (suc y) 0
angle (negsuc x) (pos (suc y)) = Q + quadrant_angle (suc y) (suc x)
angle (negsuc x) (pos zero) = 2 * Q + quadrant_angle (suc x) 0
angle (negsuc x) (negsuc y) = 2 * Q + quadrant_angle (suc x) (suc y)
angle (pos x) (negsuc y) = 3 * Q + quadrant_angle (suc y) x
