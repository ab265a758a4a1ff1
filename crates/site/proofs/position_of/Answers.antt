-- A thousand times a field that passed its test fits.
use mathlib.Core.Path.{◌≡◌, sym, ◌∙◌}
use mathlib.Core.Bool.{true}
use Prim.Native.Nat.{ℕ, ◌≤◌, ◌<◌, ◌^◌}
use native.Mathlib.Omega.{arith}
use lib.Dec.{lit≤}
use lib.IntN.{ℤ, pos, neg_ℤ, nat_abs}
use lib.Signed.{◌≤ℤ◌}
use mir.Facts.{to_z-of_z}
use mir.Syntax.{w64}
use mir.Val.{SFits}
use Rattle.exact.specs.Range.{between}
use Rattle.exact.proofs.Differences.{split, neg-pos, zs}
use Rattle.exact.proofs.Machine.{and-true, between-low, between-high}
use Rattle.site.specs.Site.{is_latitude, is_site, in_units, position_of}
use Rattle.site.specs.declared.Site.{Site}
use Rattle.site.proofs.position_of.Goals as goal

-- ---- a field that passed its test, in units
abbrev Small : ℤ → Type 0
Small z = SFits w64 (in_units z) × (nat_abs (in_units z) < 2 ^ 40)

small : (m n : ℕ) (z : ℤ) → m ≤ 6_480_000 → n ≤ 6_480_000 → between (neg_ℤ (pos m)) z (pos n) ≡ true → Small z
small m n z h k e = go z h k (between-low _ _ _ e) (between-high _ _ _ e)
  where
    go : (z : ℤ) → m ≤ 6_480_000 → n ≤ 6_480_000 → neg_ℤ (pos m) ≤ℤ z → z ≤ℤ pos n → Small z
    go z = rw (split z, neg-pos m) (simp zs (omega arith))

-- ---- a site
both_small : (site : Site) → is_site site ≡ true → Small site.latitude × Small site.longitude
unfolding is_site
both_small site e =
    let p = and-true (is_latitude site.latitude) _ e in
    (small 3_204_000 3_204_000 site.latitude (lit≤ tt) (lit≤ tt) p.0, small 6_479_999 6_480_000 site.longitude (lit≤ tt) (lit≤ tt) p.1)

pub returns-then-not-is_site : goal.returns-then-not-is_site
unfolding position_of
returns-then-not-is_site c = simp (sym c.is_site.ensures ∙ c.if-not-is_site.true)

pub overflow_mul-result : goal.overflow_mul-result
overflow_mul-result c =
    let f : SFits w64 c.args.site.latitude = record { sfits = omega arith } in
    simp (to_z-of_z, f) (both_small c.args.site (sym c.is_site.ensures ∙ c.if-not-is_site.false)).0.0

pub overflow_mul-result-2 : goal.overflow_mul-result-2
overflow_mul-result-2 c =
    let f : SFits w64 c.args.site.longitude = record { sfits = omega arith } in
    simp (to_z-of_z, f) (both_small c.args.site (sym c.is_site.ensures ∙ c.if-not-is_site.false)).1.0

pub invariant_of-result : goal.invariant_of-result
invariant_of-result c =
    let f : SFits w64 c.args.site.latitude = record { sfits = omega arith } in
    let g : SFits w64 c.args.site.longitude = record { sfits = omega arith } in
    let s = both_small c.args.site (sym c.is_site.ensures ∙ c.if-not-is_site.false) in
    simp (to_z-of_z, f, g, s.0.0, s.1.0) (record { latitude = s.0.1; longitude = s.1.1 })

pub returns : goal.returns
unfolding position_of
returns c =
    let f : SFits w64 c.args.site.latitude = record { sfits = omega arith } in
    let g : SFits w64 c.args.site.longitude = record { sfits = omega arith } in
    let e = sym c.is_site.ensures ∙ c.if-not-is_site.false in
    let s = both_small c.args.site e in
    simp (to_z-of_z, f, g, s.0.0, s.1.0, e)
