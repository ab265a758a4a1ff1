-- Document 01, "The Sun" (RULES.md, "The Sun", `term`): an amplitude times the sine of a phase with multiples of arguments. A cosine is a term whose
-- phase has a quadrant more, since Cos(a) is Sin(a + Q) (law `cosine-term`).
use Rattle.std.specs.Prelude.{List, ℕ, ◌^◌, ℤ, pos, ◌+ℤ◌, ◌*ℤ◌, get_or}
use Rattle.exact.specs.Reduction.{reduced}
use Rattle.secular.specs.FlooredPolynomial as secular
use Rattle.secular.specs.Sizes.{most}
use Rattle.secular.specs.declared.Polynomial.{Polynomial}

-- a multiple of the argument that has an index in the list of arguments
pub record Part : Type 0 where
  pub times : ℤ
  pub index : ℕ

-- the amplitude's c0, c1, c2 and the phase in units
pub record Term : Type 0 where
  pub c0 : ℤ
  pub c1 : ℤ
  pub c2 : ℤ
  pub phase : ℤ
  pub first : Part
  pub second : Part
  pub third : Part

-- the amplitude, c0 + floor(c1·q/10^6) + floor(c2·q²/10^12) at q
abbrev pub amplitude : Term → Polynomial
amplitude t = secular.polynomial t.c0 t.c1 t.c2 (10 ^ 12)

abbrev pub amplitude_of : Term → ℤ → ℤ
amplitude_of t q = secular.value (amplitude t) q

abbrev pub part : List ℤ → Part → ℤ
part arguments p = p.times *ℤ get_or arguments p.index (pos 0)

-- the angle, reduced before its sine is taken
unfoldable pub angle_of : List ℤ → Term → ℕ
angle_of arguments t = reduced (t.phase +ℤ part arguments t.first +ℤ part arguments t.second +ℤ part arguments t.third)

-- the term with a function f for the sine
unfoldable pub value : (ℕ → ℤ) → List ℤ → ℤ → Term → ℤ
value f arguments q t = amplitude_of t q *ℤ f (angle_of arguments t)

-- the most that the amplitude can be at an accepted instant, of whatever sign
abbrev pub weight : Term → ℕ
weight t = most (amplitude t)
