-- What is between the entries, shared out and rounded once.
use mathlib.Core.Path.{◌≡◌}
use Prim.Native.Nat.{ℕ, ◌+◌, ◌-◌, ◌*◌, ◌/◌, ◌≤◌}
use native.Mathlib.Nat.{mul-le-mul_left}
use native.Mathlib.Omega.{arith}
use Rattle.exact.specs.Division.{nearest_div_ℕ}
use Rattle.sine_table.specs.Step.{step}
use Rattle.sine.specs.Sine.{interpolated}
use Rattle.sine.proofs.interpolated.Goals as goal

-- d between the entries, r units on and s to go
weighed : (low d r s : ℕ) → r + s ≡ step → low * s + (low + d) * r ≡ step * low + d * r
weighed low d r s e = go step e
  where
    go : (k : ℕ) → r + s ≡ k → low * s + (low + d) * r ≡ k * low + d * r
    go k e = rw e at ring
      where
        ring : low * s + (low + d) * r ≡ (r + s) * low + d * r
        ring = omega arith

shared : (low d r : ℕ) → r ≤ step → low + (d * r + step / 2) / step ≡ interpolated low (low + d) r
unfolding nearest_div_ℕ
shared low d r h = let e = weighed low d r (step - r) (omega arith) in omega arith

pub returns : goal.returns
returns c =
    let a = c.args in
    let e : a.low + (a.high - a.low) ≡ a.high = omega arith in
    (rw e at (shared a.low (a.high - a.low) a.r c.requires.2), omega (arith, mul-le-mul_left (a.high - a.low) c.requires.2))
