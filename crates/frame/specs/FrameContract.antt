-- What is owed of a frame: its numbers by their definitions, and their size.
use Rattle.std.specs.Prelude.{◌≡◌, List, ◌≤◌, ◌<◌, ◌^◌, ℤ, nat_abs}
use Rattle.frame.specs.Nutation.{dpsi, epsilon0, epsilon}
use Rattle.frame.specs.declared.Frame.{Frame}

pub record IsFrame (arguments : List ℤ) (q : ℤ) (f : Frame) : Type 0 where
  pub epsilon0 : f.epsilon0 ≡ epsilon0 arguments
  pub dpsi : f.dpsi ≡ dpsi arguments q
  pub epsilon : f.epsilon ≡ epsilon arguments q
  pub epsilon0-size : nat_abs f.epsilon0 < 2 ^ 34
  pub dpsi-size : nat_abs f.dpsi ≤ 2 ^ 20
  pub epsilon-size : nat_abs f.epsilon < 2 ^ 35
