-- A cosine is a term whose phase is a quadrant more: document 01 has Cos(a) = Sin(a + Q), and any angle is reduced first.
use mathlib.Core.Path.{◌≡◌, refl, sym, ap, ◌∙◌}
use mathlib.Core.List.{List}
use native.Mathlib.Omega.{arith}
use lib.IntN.{ℤ, pos, ◌+ℤ◌, ◌*ℤ◌}
use Rattle.exact.specs.Reduction.{Q, reduced}
use Rattle.exact.proofs.Differences.{split, zs}
use Rattle.exact.proofs.Reduction.{reduced-part}
use Rattle.sine.specs.Sine.{Sin, Cos}
use Rattle.series.specs.Term.{Part, Term, amplitude_of, part, angle_of, value}
use Rattle.series.specs.Notation.{term}

pub cosine-is : (z : ℤ) → Sin (reduced (z +ℤ pos Q)) ≡ Cos (reduced z)
unfolding Cos
cosine-is z = ap Sin (sym (reduced-part z (pos Q)))

-- an angle is the phase with the multiples of its arguments, reduced
angle-is : (arguments : List ℤ) (t : Term) → angle_of arguments t ≡ reduced (t.phase +ℤ part arguments t.first +ℤ part arguments t.second +ℤ part arguments t.third)
unfolding angle_of
angle-is arguments t = refl

-- so a term with a quadrant more in its phase is its amplitude times the cosine of the angle without it
pub cosine-term : (arguments : List ℤ) (q c0 c1 c2 phase : ℤ) (first second third : Part)
    → let t = term c0 c1 c2 (phase +ℤ pos Q) first second third in
    value Sin arguments q t ≡ amplitude_of t q *ℤ Cos (reduced (phase +ℤ part arguments first +ℤ part arguments second +ℤ part arguments third))
unfolding value
cosine-term arguments q c0 c1 c2 phase first second third =
    let t = term c0 c1 c2 (phase +ℤ pos Q) first second third in
    let a = part arguments first in
    let b = part arguments second in
    let c = part arguments third in
    ap (λ (z : ℤ). amplitude_of t q *ℤ z) (ap Sin (angle-is arguments t) ∙ ap (λ (z : ℤ). Sin (reduced z)) (behind phase (pos Q) a b c) ∙ cosine-is (phase +ℤ a +ℤ b +ℤ c))
  where
    behind : (p k a b c : ℤ) → p +ℤ k +ℤ a +ℤ b +ℤ c ≡ p +ℤ a +ℤ b +ℤ c +ℤ k
    behind p k a b c = rw (split p, split k, split a, split b, split c) (simp zs (omega arith))
