-- What is said of the instants in FarthestKnown: the longitudes at an epoch, by an edition, and how far they are apart.
use mathlib.Core.Path.{◌≡◌}
use Prim.Native.Nat.{ℕ}
use lib.IntN.{ℤ}
use Rattle.exact.specs.Reduction.{short_way}
use Rattle.epoch.specs.Epoch.{Epoch}
use Rattle.calendar.specs.Time.{instant_of, accepted}
use Rattle.calendar.specs.declared.CivilTime.{CivilTime}
use Rattle.calendar.specs.declared.Epochs.{Epochs}
use Rattle.sun.specs.Longitude.{aberration, apparent_longitude, polynomial_longitude}

-- an epoch that is that of both times, as without ΔT
abbrev pub both : Epoch → Epochs
both e = record { universal = e; ephemeris = e }

-- s, the polynomial longitude and their distance at an epoch, by an edition
abbrev pub apparent_at : ℤ → Epoch → ℕ
apparent_at edition e = apparent_longitude edition aberration e

abbrev pub polynomial_at : ℤ → Epoch → ℕ
polynomial_at edition e = polynomial_longitude edition aberration e

abbrev pub distance : ℤ → Epoch → ℕ
distance edition e = short_way (apparent_at edition e) (polynomial_at edition e)

-- of an edition, an accepted instant, its two longitudes, and their distance the short way round
abbrev pub TwoApart : ℤ → CivilTime → Epoch → ℕ → ℕ → Type 0
TwoApart edition t e s p = (instant_of t ≡ accepted (both e)) × (apparent_at edition e ≡ s) × (polynomial_at edition e ≡ p) × (distance edition e ≡ 2)
