-- What keeps a position within 64 bits.
use Rattle.std.specs.Prelude.{◌<◌, ◌^◌, nat_abs}
use Rattle.site.specs.Site.{Position}

pub record PositionSized (p : Position) : Type 0 where
  pub latitude : nat_abs p.latitude < 2 ^ 40
  pub longitude : nat_abs p.longitude < 2 ^ 40
