-- What the astrometry of an accepted instant gives to both bodies.
use mathlib.Core.Path.{◌≡◌, refl, ap}
use mathlib.Core.List.{List}
use Prim.Native.Nat.{ℕ, ◌^◌}
use lib.IntN.{ℤ, pos}
use mir.Syntax.{w64}
use mir.Val.{SFits}
use Rattle.exact.proofs.Machine.{fits_lt}
use Rattle.sun.specs.Longitude.{aberration, apparent_longitude, centre_longitude}
use Rattle.sun.specs.Direction as Sun
use Rattle.polaris.specs.Apparent as Polaris
use Rattle.site.specs.Site.{Position}
use Rattle.horizon.specs.Horizon.{view_from}
use Rattle.fieldbook.specs.Shot.{sun_longitude, sun_direction, polaris_direction, view_at}
use Rattle.fieldbook.specs.declared.Astrometry.{Astrometry}

module _ (k : Astrometry) where
  -- ---- the frame's obliquity fits
  pub epsilon-fits : SFits w64 k.frame.epsilon
  epsilon-fits = fits_lt (2 ^ 35) k.frame.epsilon k.known.frame.epsilon-size refl

  -- ---- a body by its direction and its longitude
  pub sun-is : (edition : ℤ) (s : ℕ) (d : List ℤ) → s ≡ apparent_longitude edition aberration k.epochs.ephemeris → d ≡ Sun.direction s k.frame.epsilon
      → (d ≡ sun_direction edition k.epochs.ephemeris) × (s ≡ sun_longitude edition k.epochs.ephemeris)
  unfolding sun_direction sun_longitude
  sun-is edition s d e f = let i = k.known.frame.epsilon in let j = k.known.arguments in (cc, cc)

  pub polaris-is : (g : ℕ) (d : List ℤ) → g ≡ centre_longitude k.arguments k.epochs.ephemeris.q
      → d ≡ Polaris.direction k.epochs.ephemeris k.frame.epsilon0 k.frame.dpsi k.frame.epsilon g
      → d ≡ polaris_direction k.epochs.ephemeris
  unfolding polaris_direction
  polaris-is g d e f =
      let i = k.known.frame.epsilon0 in
      let j = k.known.frame.dpsi in
      let l = k.known.frame.epsilon in
      let m = k.known.arguments in cc

  -- ---- the view of it
  pub view-is : (p : Position) (d : List ℤ) → view_from (pos k.sidereal) p d ≡ view_at k.epochs p d
  unfolding view_at
  view-is p d = ap (λ (n : ℕ). view_from (pos n) p d) k.known.sidereal
