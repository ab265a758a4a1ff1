-- The row is worked as an argument is, and reducing it first changes nothing (reduction is a congruence).
use mathlib.Core.Path.{◌≡◌, refl, ap, ap₂, ◌∙◌}
use Prim.Native.Nat.{ℕ, ◌≤◌, ◌<◌, ◌^◌}
use native.Mathlib.Omega.{arith}
use lib.IntN.{ℤ, pos, nat_abs, ◌+ℤ◌, ◌*ℤ◌}
use mir.Facts.{to_z-of_z}
use mir.Syntax.{w64}
use mir.Val.{SFits}
use Rattle.exact.specs.Reduction.{turn, reduced}
use Rattle.exact.specs.Century.{century}
use Rattle.exact.specs.Division.{floor_div, nearest_div}
use Rattle.exact.specs.Nth.{nth}
use Rattle.exact.proofs.Differences.{split, zs}
use Rattle.exact.proofs.Machine.{ok-fits, fits_lt, fits_le}
use Rattle.exact.proofs.Reduction.{reduced-part}
use Rattle.secular.specs.FlooredPolynomial.{polynomial, value}
use Rattle.epoch.specs.Epoch.{Epoch}
use Rattle.epoch.proofs.Sizes.{n-size, n-fits}
use Rattle.arguments.specs.Argument.{argument}
use Rattle.frame.specs.Sidereal.{sidereal, equinoxes, sidereal_time}
use Rattle.frame.proofs.sidereal_time.Goals.{After-equinoxes}
use Rattle.frame.proofs.sidereal_time.Goals as goal

-- ---- over plain numbers
abbrev day : ℤ → ℤ
day n = pos 150 *ℤ (n +ℤ pos 43_200_000)

abbrev Sums : ℤ → ℤ → ℤ → Type 0
Sums n a e =
    SFits w64 (n +ℤ pos 43_200_000) × SFits w64 (day n) × SFits w64 (day n +ℤ a) × SFits w64 (day n +ℤ a +ℤ e) × (nat_abs (day n +ℤ a +ℤ e) ≤ 2 ^ 61)

sums : (n a e : ℤ) → nat_abs n < 2 ^ 43 → nat_abs a < turn → nat_abs e ≤ 2 ^ 20 → Sums n a e
sums n a e = rw (split n, split a, split e) (simp zs (omega arith))

-- the row reduced first
whole : (e : Epoch) (Δψ ε : ℤ) → reduced (day e.n +ℤ pos (argument sidereal e) +ℤ equinoxes Δψ ε) ≡ sidereal_time e Δψ ε
unfolding argument sidereal_time
whole e Δψ ε =
    let l = floor_div (nth sidereal 1 *ℤ e.n) century in
    let v = value (polynomial (nth sidereal 0) (pos 0) (nth sidereal 2) (10 ^ 12)) e.q in
    let x = equinoxes Δψ ε in
    ap reduced (front (day e.n) (pos (reduced (l +ℤ v))) x) ∙ reduced-part (l +ℤ v) (day e.n +ℤ x) ∙ ap reduced (back (day e.n) l v x)
  where
    front : (d a x : ℤ) → d +ℤ a +ℤ x ≡ a +ℤ (d +ℤ x)
    front d a x = rw (split d, split a, split x) (simp zs (omega arith))

    back : (d l v x : ℤ) → l +ℤ v +ℤ (d +ℤ x) ≡ d +ℤ l +ℤ v +ℤ x
    back d l v x = rw (split d, split l, split v, split x) (simp zs (omega arith))

-- ---- what the calls give
module _ (c : After-equinoxes) where
  abbrev n : ℤ
  n = c.universal.inside.n

  abbrev found : ℕ
  found = c.argument-excess.result

  abbrev x : ℤ
  x = c.equinoxes.result

  found-is : (found ≡ argument sidereal c.args.universal) × (found < turn)
  unfolding sidereal nearest_div floor_div
  found-is = c.argument-excess.ensures

  fit : SFits w64 n × SFits w64 (pos found)
  fit = (n-fits c.universal.invariant, record { sfits = omega (arith, found-is.1) })

  late : Sums n (pos found) x
  late = sums n (pos found) x (n-size c.universal.invariant) found-is.1 c.equinoxes.ensures.1

  x-is : x ≡ equinoxes c.args.f.dpsi c.args.f.epsilon
  x-is =
      simp (to_z-of_z, fits_le (2 ^ 20) c.args.f.dpsi c.requires.0 refl, fits_lt (2 ^ 35) c.args.f.epsilon c.requires.1 refl) at c.equinoxes.ensures.0

  x_fits : SFits w64 x
  x_fits = ok-fits x c.equinoxes.type_inv

  n-is : n ≡ c.args.universal.n
  n-is = ap (λ (e : Epoch). e.n) c.universal.view_is

pub returns : goal.returns
returns c =
    let b = c.before in
    let f = fit b in
    let l = late b in
    let r = simp (to_z-of_z, f.0, f.1, l.0, l.1, l.2, l.3, x_fits b) at c.reduced_bounded.ensures.0 in
    let a = c.args in
    let is = ap₂ (λ (a : ℕ) (x : ℤ). reduced (day (n b) +ℤ pos a +ℤ x)) (found-is b).0 (x-is b) in
    let universal = ap (λ (n : ℤ). reduced (day n +ℤ pos (argument sidereal a.universal) +ℤ equinoxes a.f.dpsi a.f.epsilon)) (n-is b) in
    (r ∙ is ∙ universal ∙ whole a.universal a.f.dpsi a.f.epsilon, c.reduced_bounded.ensures.1)
