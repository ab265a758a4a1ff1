-- What keeps the way to the direction of Polaris within 64 bits.
use Rattle.std.specs.Prelude.{ℕ, ◌+◌, ◌*◌, ◌^◌, ◌<◌, nat_abs}
use Rattle.sine_table.specs.Table.{R}
use Rattle.frame.specs.declared.Frame.{Frame}
use Rattle.polaris.specs.declared.Elements.{Elements}

pub record ElementsSized (k : Elements) : Type 0 where
  pub alpha : nat_abs k.alpha < 2 ^ 40
  pub delta : nat_abs k.delta < 2 ^ 40
  pub zeta : nat_abs k.zeta < 2 ^ 40
  pub theta : nat_abs k.theta < 2 ^ 40
  pub z : nat_abs k.z < 2 ^ 40

-- the squared length of the direction is at most this, where R² is meant
abbrev pub direction_most : ℕ
direction_most = R * R + 10 ^ 15

-- of the angles of a frame
pub record FrameSized (f : Frame) : Type 0 where
  pub epsilon0 : nat_abs f.epsilon0 < 2 ^ 40
  pub dpsi : nat_abs f.dpsi < 2 ^ 40
  pub epsilon : nat_abs f.epsilon < 2 ^ 40
