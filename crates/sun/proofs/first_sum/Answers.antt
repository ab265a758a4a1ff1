-- The terms that both editions share are summed once, what the full one adds is added, and the whole is rounded once.
use mathlib.Core.Path.{sym, ap, ◌∙◌}
use Prim.Native.Nat.{◌^◌}
use native.Mathlib.Omega.{arith}
use mir.Facts.{to_z-of_z}
use mir.Syntax.{w64}
use mir.Val.{to_z, of_z}
use Rattle.exact.proofs.Machine.{ok-fits}
use Rattle.sun.proofs.Editions.{short-first-sum, full-first-sum}
use Rattle.sun.proofs.first_sum.Goals as goal

-- ---- the short edition
pub rounded-requires : goal.rounded-requires
rounded-requires c = simp (to_z-of_z, ok-fits c.short_sum-short.result c.short_sum-short.type_inv) (omega (arith, c.short_sum-short.ensures.1))

pub returns-then-edition-eq1 : goal.returns-then-edition-eq1
returns-then-edition-eq1 c =
    let short = c.short_sum-short in
    let one = sym (to_z-of_z c.ranges.edition) ∙ ap (to_z w64) c.if-edition-eq1.true in
    let r = simp (to_z-of_z, ok-fits short.result short.type_inv) at c.rounded.ensures in
    simp (to_z-of_z, ok-fits c.rounded.result c.rounded.type_inv)
    (r.0 ∙ short-first-sum c.args.edition c.args.e short.result one short.ensures.0, r.1 (2 ^ 29) (omega (arith, short.ensures.1)), short.ensures.2)

-- ---- the full one
pub full_sum-requires : goal.full_sum-requires
full_sum-requires c = let s = c.short_sum-short in simp (to_z-of_z, ok-fits s.result s.type_inv) (c.requires, (s.ensures.0, s.ensures.1))

pub rounded-requires-else-edition-eq1 : goal.rounded-requires-else-edition-eq1
rounded-requires-else-edition-eq1 c = simp (to_z-of_z, ok-fits c.full_sum.result c.full_sum.type_inv) (omega (arith, c.full_sum.ensures.1))

pub returns-else-edition-eq1 : goal.returns-else-edition-eq1
returns-else-edition-eq1 c =
    let full = c.full_sum in
    let r = simp (to_z-of_z, ok-fits full.result full.type_inv) at c.rounded-else-edition-eq1.ensures in
    simp (to_z-of_z, ok-fits c.rounded-else-edition-eq1.result c.rounded-else-edition-eq1.type_inv)
    (r.0 ∙ full-first-sum c.args.edition c.args.e full.result (λ h. c.if-edition-eq1.false (ap (of_z w64) h)) full.ensures.0, r.1 (2 ^ 29) full.ensures.1, c.short_sum-short.ensures.2)
