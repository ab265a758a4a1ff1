-- The angle's refusal; else the difference of two angles, which is small.
use mathlib.Core.Path.{◌≡◌, refl, sym, ap, ◌∙◌}
use mathlib.Core.Bool.{Bool, true, false}
use Prim.Native.Nat.{ℕ, ◌<◌}
use native.Mathlib.Omega.{arith}
use lib.IntN.{ℤ, pos, nat_abs, ◌-ℤ◌}
use Rattle.std.specs.Prelude.{Ok}
use mir.Facts.{to_z-of_z}
use mir.Syntax.{w64}
use mir.Val.{SFits, to_z, of_z}
use Rattle.exact.specs.Reduction.{turn, is_reduced, reduced}
use Rattle.exact.proofs.Machine.{abs-fits, as-signed, nat-reduced, reduced-apart}
use Rattle.fieldbook.specs.Shot.{shot_values}
use Rattle.pointing.proofs.ByTheShot.{by-angle}
use Rattle.pointing.proofs.pointed.Goals as goal

-- ---- of the azimuth of an answered shot and an angle that was tested
module _ (azimuth : ℕ) (angle : ℤ) (size : azimuth < turn) (fits : SFits w64 angle) (reduced-angle : is_reduced angle ≡ true) where
  apart : nat_abs (pos azimuth -ℤ angle) < turn
  apart = reduced-apart (pos azimuth) angle (nat-reduced azimuth size) reduced-angle

  apart_fits : SFits w64 (pos azimuth -ℤ angle)
  apart_fits = abs-fits (pos azimuth -ℤ angle) (omega (arith, apart))

  -- what is reduced, as the machine holds it
  held : to_z w64 (of_z w64 (to_z w64 azimuth -ℤ to_z w64 (of_z w64 angle))) ≡ pos azimuth -ℤ angle
  held =
      let f = apart_fits in
      simp (to_z-of_z, fits, as-signed azimuth (omega (arith, size)), f) refl

-- what the test of the angle says
tested : (angle : ℤ) → SFits w64 angle → (r t : Bool) → r ≡ is_reduced (to_z w64 (of_z w64 angle)) → r ≡ t → is_reduced angle ≡ t
tested angle f r t h e = sym (simp (to_z-of_z, f) at h) ∙ e

pub returns-then-not-is_reduced : goal.returns-then-not-is_reduced
returns-then-not-is_reduced c =
    let r = tested c.args.angle c.ranges.angle _ false c.is_reduced.ensures c.if-not-is_reduced.true in
    (by-angle (shot_values (Ok c.args.a)) c.args.angle false refl r, omega arith)

pub overflow_sub-a : goal.overflow_sub-a
overflow_sub-a c =
    let n = c.args.a.azimuth in
    let r = tested c.args.angle c.ranges.angle _ true c.is_reduced.ensures c.if-not-is_reduced.false in
    simp (to_z-of_z, c.ranges.angle, as-signed n (omega (arith, c.requires.0))) (apart_fits n c.args.angle c.requires.0 c.ranges.angle r)

pub reduced_bounded-requires : goal.reduced_bounded-requires
reduced_bounded-requires c =
    let n = c.args.a.azimuth in
    let r = tested c.args.angle c.ranges.angle _ true c.is_reduced.ensures c.if-not-is_reduced.false in
    rw (held n c.args.angle c.requires.0 c.ranges.angle r) (omega (arith, apart n c.args.angle c.requires.0 c.ranges.angle r))

pub returns : goal.returns
returns c =
    let n = c.args.a.azimuth in
    let angle = c.args.angle in
    let r = tested angle c.ranges.angle _ true c.is_reduced.ensures c.if-not-is_reduced.false in
    let is = c.reduced_bounded.ensures.0 ∙ ap reduced (held n angle c.requires.0 c.ranges.angle r) in
    (rw is (by-angle (shot_values (Ok c.args.a)) angle true refl r), c.reduced_bounded.ensures.1)
