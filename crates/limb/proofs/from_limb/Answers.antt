-- The two tests of the limb are those of the definition.
use mathlib.Core.Path.{◌≡◌, sym, ap, ◌∙◌}
use mathlib.Core.Bool.{false, decide_iff}
use Prim.Native.Nat.{◌<◌, ◌^◌}
use native.Mathlib.Omega.{arith}
use lib.IntN.{ℤ, pos, neg_ℤ, nat_abs, ◌-ℤ◌, ℤ_discrete}
use lib.Signed.{◌≤ℤ◌}
use mir.Facts.{to_z-of_z}
use mir.Syntax.{w64}
use mir.Val.{SFits, to_z, of_z}
use Rattle.exact.proofs.Choice.{not-decided}
use Rattle.exact.proofs.Differences.{split, zs}
use Rattle.exact.proofs.Machine.{ok-fits, negated}
use Rattle.limb.specs.Limb.{is_centre}
use Rattle.limb.specs.Limb.{from_limb}
use Rattle.limb.proofs.from_limb.Goals.{After-correction-correction, Else-limb-eq1, Start}
use Rattle.limb.proofs.from_limb.Goals as goal

off-centre : (c : Else-limb-eq1) → is_centre c.before.args.limb ≡ false
off-centre c = not-decided (ℤ_discrete c.before.args.limb (pos 1)) λ e. c.if-limb-eq1.false (ap (of_z w64) e)

-- the correction, and with the minus
module _ (c : After-correction-correction) where
  abbrev start : Start
  start = c.before.before

  abbrev k : ℤ
  k = c.correction-correction.result

  k-fits : SFits w64 k
  k-fits = ok-fits k c.correction-correction.type_inv

  k-small : nat_abs k < 2 ^ 31
  k-small = go k c.correction-correction.ensures.1.least c.correction-correction.ensures.1.most
    where
      go : (k : ℤ) → pos 9_450_000 ≤ℤ k → k ≤ℤ pos 1_530_000_000 → nat_abs k < 2 ^ 31
      go k = rw (split k) (simp zs (omega arith))

  opposite : SFits w64 (pos 0 -ℤ k) × (pos 0 -ℤ k ≡ neg_ℤ k) × (nat_abs (pos 0 -ℤ k) ≡ nat_abs k)
  opposite = negated k (omega (arith, k-small))

pub returns-then-limb-eq1 : goal.returns-then-limb-eq1
unfolding from_limb
returns-then-limb-eq1 c =
    let s = c.before in
    let one = sym (to_z-of_z s.ranges.limb) ∙ ap (to_z w64) c.if-limb-eq1.true in
    (rw ((decide_iff (ℤ_discrete s.args.limb (pos 1))).1 one), omega arith)

pub correction-correction-requires : goal.correction-correction-requires
correction-correction-requires c = let p = c.before.requires in (p.0 (off-centre c), p.1, p.2)

pub returns-then-limb-eq2 : goal.returns-then-limb-eq2
unfolding from_limb
returns-then-limb-eq2 c =
    let d = c.before in
    let s = start d in
    let two = (decide_iff (ℤ_discrete s.args.limb (pos 2))).1 (sym (to_z-of_z s.ranges.limb) ∙ ap (to_z w64) c.if-limb-eq2.true) in
    simp (to_z-of_z, k-fits d) (rw (off-centre d.before, two) d.correction-correction.ensures.0, k-small d)

pub returns-else-limb-eq2 : goal.returns-else-limb-eq2
unfolding from_limb
returns-else-limb-eq2 c =
    let d = c.before in
    let s = start d in
    let o = opposite d in
    let other = not-decided (ℤ_discrete s.args.limb (pos 2)) λ e. c.if-limb-eq2.false (ap (of_z w64) e) in
    simp (to_z-of_z, k-fits d, o.0) (rw (off-centre d.before, other) (o.1 ∙ ap neg_ℤ d.correction-correction.ensures.0), omega (arith, o.2, k-small d))
