-- On 0..Q Sin does not fall and Cos does not rise; and no sine or cosine is beyond R.
use mathlib.Core.Path.{◌≡◌}
use Prim.Native.Nat.{ℕ, suc, ◌+◌, ◌-◌, ◌*◌, ◌/◌, ◌%◌, ◌≤◌, ◌<◌}
use native.Mathlib.Nat.{le_refl}
use native.Mathlib.Omega.{arith}
use lib.Dec.{lit<, le→leb}
use lib.IntN.{ℤ, nat_abs}
use lib.Signed.{◌≤ℤ◌}
use Rattle.exact.specs.Reduction.{Q, turn}
use Rattle.exact.proofs.Integers.{abs_neg}
use Rattle.exact.proofs.Division.{nearest-mono}
use Rattle.exact.proofs.AllBelow.{climbs}
use Rattle.sine_table.specs.Step.{step}
use Rattle.sine_table.specs.Table.{R, entry_at}
use Rattle.sine.specs.Sine.{sin_quadrant, Sin, Cos}
use Rattle.sine_table.proofs.TableRule.{entry-climbs}
use Rattle.sine.proofs.Quadrant.{sin-at, sin-top}
use Rattle.sine.proofs.Extension.{on-turn, sin-1, cos-1, folded}

-- one unit further in an interval
step-on : (n u v : ℕ) → suc u + v ≡ step → n < Q / step → sin_quadrant (step * n + v) ≤ sin_quadrant (step * n + suc v)
step-on n u v e h =
    rw (sin-at n (suc u) v e h, sin-at n u (suc v) (omega arith) h)
    (nearest-mono (lit< tt) (shift (entry_at n) (entry_at (suc n)) (entry-climbs n (suc n) (omega arith) h)))
  where
    shift : (low high : ℕ) → low ≤ high → low * suc u + high * v ≤ low * u + high * suc v
    shift low high h = omega arith

next : (a : ℕ) → a < Q → sin_quadrant a ≤ sin_quadrant (suc a)
next a h =
    let here : step * (a / step) + a % step ≡ a = omega arith in
    let there : step * (a / step) + suc (a % step) ≡ suc a = omega arith in
    rw (here, there) at
    (step-on (a / step) (step - suc (a % step)) (a % step) (omega arith) (omega arith))

pub sin-climbs : (a b : ℕ) → a ≤ b → b ≤ Q → sin_quadrant a ≤ sin_quadrant b
sin-climbs = climbs sin_quadrant Q next

pub sin-le : (a : ℕ) → a ≤ Q → sin_quadrant a ≤ R
sin-le a h = rw sin-top at (sin-climbs a Q h (le_refl Q))

-- ---- the order of Sin and Cos on 0..Q
pub sin-does-not-fall : (a b : ℕ) → a ≤ b → b ≤ Q → Sin a ≤ℤ Sin b
sin-does-not-fall a b h k = rw (sin-1 a (omega arith), sin-1 b k) (record { le = le→leb _ _ (sin-climbs a b h k) })

pub cos-does-not-rise : (a b : ℕ) → a ≤ b → b ≤ Q → Cos b ≤ℤ Cos a
cos-does-not-rise a b h k =
    rw (cos-1 a (omega arith), cos-1 b k) (record { le = le→leb _ _ (sin-climbs (Q - b) (Q - a) (omega arith) (omega arith)) })

-- ---- the range, over the turn
pub sin-range : (a : ℕ) → a ≤ turn → nat_abs (Sin a) ≤ R
unfolding Sin
sin-range = on-turn sin_quadrant sin_quadrant (λ (x y : ℕ). x ≤ R) sin-le (λ (x y : ℤ). nat_abs x ≤ R) (λ x y h. h) (λ x y h. rw abs_neg h)

pub cos-range : (a : ℕ) → a < turn → nat_abs (Cos a) ≤ R
cos-range a h = let f = folded a h in rw f.cos (sin-le (Q - f.b) (omega arith))
