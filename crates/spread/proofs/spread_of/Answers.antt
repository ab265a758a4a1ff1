use mathlib.Core.Path.{◌≡◌, sym, ap, ap₂, ◌∙◌, subst}
use mathlib.Core.Bool.{true, false, ◌&&◌}
use mathlib.Core.List.{List}
use Prim.Native.Nat.{◌-◌}
use native.Mathlib.Omega.{arith}
use lib.IntN.{ℤ, pos, ◌-ℤ◌}
use lib.ListN.{length, get_or, take, drop}
use mir.Facts.{to_z-of_z}
use mir.Syntax.{w64}
use mir.Val.{SFits, of_z, to_z}
use borrow.Author.Rules.{rules}
use Rattle.std.specs.Int.{int_max, int_min}
use Rattle.exact.specs.Reduction.{is_reduced}
use Rattle.exact.proofs.Machine.{abs-fits, reduced-apart}
use Rattle.spread.specs.Spread.{larger, smaller, largest, smallest, spread}
use Rattle.spread.proofs.Pass.{max_is, min_is, along-begin, along-next, along-end}
use Rattle.spread.proofs.Ends.{ends-decide}
use Rattle.spread.proofs.Tests.{first-fails, second-fails}
use Rattle.spread.proofs.spread_of.Goals.{else-is_reduced-via-then-is_reduced+else-is_reduced-2, else-is_reduced-via-else-is_reduced}
use Rattle.spread.proofs.spread_of.Goals as goal

-- ---- the loop
pub loop-a-init : goal.loop-a-init
loop-a-init c =
    let l = c.args.results.now in
    let f : SFits w64 (get_or l 0 (pos 0)) = search rules in
    rw (to_z-of_z f) (record { most = along-begin larger l c.requires; least = along-begin smaller l c.requires })

-- what std says of the two, in the words of specs/
maximum : (r a b : ℤ) → r ≡ int_max a (to_z w64 (of_z w64 b)) → SFits w64 b → r ≡ larger a b
maximum r a b e f = e ∙ ap (int_max a) (to_z-of_z f) ∙ max_is a b

minimum : (r a b : ℤ) → r ≡ int_min a (to_z w64 (of_z w64 b)) → SFits w64 b → r ≡ smaller a b
minimum r a b e f = e ∙ ap (int_min a) (to_z-of_z f) ∙ min_is a b

pub loop-a-preserved : goal.loop-a-preserved
loop-a-preserved c =
    let l = c.args.results.now in
    let rest = take (length l - 1) (drop 1 l) in
    let i = c.loop-a.a-index in
    let f : SFits w64 (get_or rest i (pos 0)) = search rules in
    let g : SFits w64 c.max-most.result = search rules in
    let h : SFits w64 c.min-least.result = search rules in
    let m = maximum _ _ _ c.max-most.ensures.value f in
    let n = minimum _ _ _ c.min-least.ensures.value f in
    rw (to_z-of_z g, to_z-of_z h, m, n)
    (record {
      most = sym (along-next larger rest _ i c.loop-a-test.true) ∙ c.loop-a.invariant.most;
      least = sym (along-next smaller rest _ i c.loop-a-test.true) ∙ c.loop-a.invariant.least;
    })

-- ---- both are angles
spread-fits : (l : List ℤ) → is_reduced (smallest l) ≡ true → is_reduced (largest l) ≡ true → SFits w64 (spread l)
unfolding spread
spread-fits l p q = let h = reduced-apart _ _ q p in abs-fits _ (omega arith)

pub overflow_sub-result : goal.overflow_sub-result
unfolding spread
overflow_sub-result c =
    let l = c.args.results.now in
    let most = sym (along-end larger _ _ c.loop-a.a-index c.loop-a-test.false) ∙ c.loop-a.invariant.most in
    let least = sym (along-end smaller _ _ c.loop-a.a-index c.loop-a-test.false) ∙ c.loop-a.invariant.least in
    let p = sym (c.is_reduced.ensures ∙ ap is_reduced least) ∙ c.if-is_reduced.true in
    let q = sym (c.is_reduced-then-is_reduced.ensures ∙ ap is_reduced most) ∙ c.if-is_reduced-2.true in
    subst (SFits w64) (sym (ap₂ ◌-ℤ◌ most least)) (spread-fits l p q)

pub returns-then-is_reduced-2 : goal.returns-then-is_reduced-2
unfolding spread
returns-then-is_reduced-2 c =
    let l = c.args.results.now in
    let most = sym (along-end larger _ _ c.loop-a.a-index c.loop-a-test.false) ∙ c.loop-a.invariant.most in
    let least = sym (along-end smaller _ _ c.loop-a.a-index c.loop-a-test.false) ∙ c.loop-a.invariant.least in
    let p = sym (c.is_reduced.ensures ∙ ap is_reduced least) ∙ c.if-is_reduced.true in
    let q = sym (c.is_reduced-then-is_reduced.ensures ∙ ap is_reduced most) ∙ c.if-is_reduced-2.true in
    let f = spread-fits l p q in
    simp (ap₂ ◌-ℤ◌ most least, to_z-of_z, f, sym (ends-decide l c.requires) ∙ ap₂ ◌&&◌ p q)

-- ---- one of the two is no angle
pub returns-else-is_reduced : goal.returns-else-is_reduced
returns-else-is_reduced c =
    let l = c.args.results.now in
    let most = sym (along-end larger _ _ c.loop-a.a-index c.loop-a-test.false) ∙ c.loop-a.invariant.most in
    let least = sym (along-end smaller _ _ c.loop-a.a-index c.loop-a-test.false) ∙ c.loop-a.invariant.least in
    let fails : (is_reduced (smallest l) && is_reduced (largest l)) ≡ false =
    elim c.else-is_reduced.branch [
      | else-is_reduced-via-else-is_reduced w ↦ first-fails _ _ (sym (c.is_reduced.ensures ∙ ap is_reduced least) ∙ w.if-is_reduced.false)
      | else-is_reduced-via-then-is_reduced+else-is_reduced-2 w ↦ second-fails (is_reduced (smallest l)) _ (sym (w.is_reduced-then-is_reduced.ensures ∙ ap is_reduced most) ∙ w.if-is_reduced-2.false)
    ] in
    simp (sym (ends-decide l c.requires) ∙ fails)
