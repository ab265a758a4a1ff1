-- How large the numbers of an epoch are, so that no step of the theory leaves 64 bits.
use Rattle.std.specs.Prelude.{◌≡◌, ℤ, pos, ◌≤ℤ◌}
use Rattle.epoch.specs.Epoch.{Epoch, millionths}

-- N of an accepted instant, by universal or ephemeris time: from 1976-01-01 with DUT1 −900 and ΔT 0 to the leap second of 2049-12-31 with DUT1 900 and
-- ΔT 120,000 ms
abbrev pub Span : ℤ → Type 0
Span n = (pos 2_398_334_399_100 ≤ℤ n) × (n ≤ℤ pos 4_733_640_121_899)

pub record InSpan (e : Epoch) : Type 0 where
  pub span : Span e.n
  pub millionths : e.q ≡ millionths e.n
