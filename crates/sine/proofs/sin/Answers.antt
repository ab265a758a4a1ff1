use mathlib.Core.Path.{ap, ◌∙◌}
use Prim.Native.Nat.{ℕ, ◌^◌, ◌<◌}
use native.Mathlib.Omega.{arith}
use lib.IntN.{pos, neg_ℤ}
use mir.Facts.{to_z_pos, to_z-of_z}
use borrow.Author.Tests.{le-leb, lt-leb}
use Rattle.exact.proofs.Machine.{negated}
use Rattle.sine.specs.Sine.{Sin}
use Rattle.sine.proofs.SineBound.{is-sine}
use Rattle.sine.proofs.sin.Goals as goal

pub returns-then-a : goal.returns-then-a
unfolding Sin
returns-then-a c =
    let h : c.sin_half.result < 2 ^ 63 = omega arith in
    is-sine c.before.before.args.a _ (omega arith) (simp (to_z_pos, h, le-leb _ _ c.before.if-a.true) (ap pos c.sin_half.ensures.0))

pub returns-else-a : goal.returns-else-a
unfolding Sin
returns-else-a c =
    let n = c.sin_half-else-a.result in
    let h : n < 2 ^ 63 = omega arith in
    let m = negated (pos n) (omega arith) in
    is-sine c.before.before.args.a _ (omega arith)
    (simp (to_z_pos, h, to_z-of_z, m.0, lt-leb _ _ c.before.if-a.false) (m.1 ∙ ap (λ (k : ℕ). neg_ℤ (pos k)) c.sin_half-else-a.ensures.0))
