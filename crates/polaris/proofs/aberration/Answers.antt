-- Each component is so many parts of a number of at most R.
use mathlib.Core.Path.{◌≡◌, ap, ap₂, ◌∙◌}
use mathlib.Core.List.{[], ◌∷◌}
use Prim.Native.Nat.{ℕ, ◌≤◌}
use native.Mathlib.Omega.{arith}
use lib.IntN.{ℤ, pos, neg_ℤ, nat_abs, ◌-ℤ◌}
use mir.Facts.{to_z-of_z}
use mir.Syntax.{w64}
use mir.Val.{SFits}
use Rattle.exact.proofs.Machine.{held, held-is, ok-fits, negated}
use Rattle.sine_table.specs.Table.{R}
use Rattle.sine.specs.Sine.{Sin, Cos}
use Rattle.rotation.specs.Sizes.{Bounded}
use Rattle.rotation.proofs.Sizes.{bounded}
use Rattle.polaris.specs.Apparent.{scaled, aberration_parts, aberration}
use Rattle.polaris.proofs.aberration.Goals as goal

-- −Cos g, from the cosine w, scaled by k, a cosine or a sine of ε
inner : (g : ℕ) (w r k b : ℤ) → SFits w64 w → SFits w64 k → nat_abs w ≤ R → w ≡ Cos g
    → let m = held (pos 0 -ℤ held w) in (r ≡ scaled m (held k)) × (nat_abs r ≤ nat_abs m) → k ≡ b
    → (r ≡ scaled (neg_ℤ (Cos g)) b) × (nat_abs r ≤ R)
inner g w r k b f h n q e p =
    let m = negated w (omega (arith, n)) in
    let i = simp (held-is, m.0, f, h) at e in
    (i.0 ∙ ap₂ scaled (m.1 ∙ ap neg_ℤ q) p, omega (arith, i.1, m.2, n))

-- a component, from the number that it has a part of
component : (r a b : ℤ) → SFits w64 a → (r ≡ scaled (pos aberration_parts) (held a)) × (nat_abs r ≤ aberration_parts) → a ≡ b
    → (r ≡ scaled (pos aberration_parts) b) × (nat_abs r ≤ aberration_parts)
component r a b f e p = let k = simp (held-is, f) at e in (k.0 ∙ ap (scaled (pos aberration_parts)) p, k.1)

-- the three, as the machine holds them
together : (x y z a b c : ℤ) → SFits w64 x → SFits w64 y → SFits w64 z
    → (x ≡ a) × (nat_abs x ≤ aberration_parts) → (y ≡ b) × (nat_abs y ≤ aberration_parts) → (z ≡ c) × (nat_abs z ≤ aberration_parts)
    → (held x ∷ held y ∷ held z ∷ [] ≡ a ∷ b ∷ c ∷ []) × Bounded aberration_parts (held x ∷ held y ∷ held z ∷ [])
together x y z a b c fx fy fz ex ey ez =
    rw (held-is x fx, held-is y fy, held-is z fz) (cc (ex.0, ey.0, ez.0), bounded aberration_parts x y z ex.1 ey.1 ez.1)

pub returns : goal.returns
unfolding aberration held
returns c =
    let g = c.args.g in
    let w = c.cos-c in
    let k = c.sin in
    let e = simp (to_z-of_z, c.ranges.epsilon) at c.reduced_bounded-e.ensures.0 in
    let y = inner g w.result c.scaled.result c.cos.result _ (ok-fits _ w.type_inv) (ok-fits _ c.cos.type_inv) w.ensures.1 w.ensures.0 c.scaled.ensures
    (c.cos.ensures.0 ∙ ap Cos e) in
    let z = inner g w.result c.scaled-2.result c.sin-2.result _ (ok-fits _ w.type_inv) (ok-fits _ c.sin-2.type_inv) w.ensures.1 w.ensures.0 c.scaled-2.ensures
    (c.sin-2.ensures.value ∙ ap Sin e) in
    let ex = component c.scaled-x.result k.result _ (ok-fits _ k.type_inv) c.scaled-x.ensures k.ensures.value in
    let ey = component c.scaled-y.result c.scaled.result _ (ok-fits _ c.scaled.type_inv) c.scaled-y.ensures y.0 in
    let ez = component c.scaled-z.result c.scaled-2.result _ (ok-fits _ c.scaled-2.type_inv) c.scaled-z.ensures z.0 in
    together c.scaled-x.result c.scaled-y.result c.scaled-z.result _ _ _ (ok-fits _ c.scaled-x.type_inv) (ok-fits _ c.scaled-y.type_inv) (ok-fits _ c.scaled-z.type_inv) ex ey ez
