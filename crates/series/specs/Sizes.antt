-- How large the numbers of rows may be, so that no step of a sum leaves 64 bits and no index lies outside the arguments: all printed terms are
-- smaller.
use Rattle.std.specs.Prelude.{List, [], ◌∷◌, ℕ, ◌^◌, ◌≤◌, ◌<◌, ℤ, pos, nat_abs, length, get_or, ◌≤ℤ◌}
use Rattle.exact.specs.Nth.{nth}
use Rattle.exact.specs.Sizes.{AllReduced}
use Rattle.secular.specs.Sizes.{most_millionths}
use Rattle.series.specs.Sum.{weights}
use Rattle.series.specs.Rows.{index, group_terms, steady_terms, varying_terms}
use Rattle.series.specs.declared.Group.{Group}

-- a rule of every row, or of every group
abbrev pub Each : {A : Type 0} → (A → Type 0) → List A → Type 0
Each {A} P rows = (i : ℕ) (beyond : A) → i < length rows → P (get_or rows i beyond)

-- no number of a row is larger than its bound
abbrev pub AtMost : List ℕ → List ℤ → Type 0
AtMost bounds row = (i : ℕ) → i < length bounds → nat_abs (nth row i) ≤ get_or bounds i 0

-- amplitude, phase, three multiples
abbrev pub steady_bounds : List ℕ
steady_bounds = 2 ^ 28 ∷ 2 ^ 35 ∷ 255 ∷ 255 ∷ 255 ∷ []

-- c0, c1, c2, phase, multiple
abbrev pub varying_bounds : List ℕ
varying_bounds = 2 ^ 28 ∷ 2 ^ 20 ∷ 2 ^ 20 ∷ 2 ^ 35 ∷ 255 ∷ []

-- the most that the terms of one sum weigh together
abbrev pub heaviest : ℕ
heaviest = 2 ^ 31

-- ---- steady amplitudes

-- a group over k arguments: its indices lie within them
pub record SmallGroup (k : ℕ) (group : Group) : Type 0 where
  pub indexed : (i : ℕ) → i < 3 → index group i < k
  pub small : Each (AtMost steady_bounds) group.rows.now

-- one group
pub record GroupReady (group : Group) (arguments : List ℤ) : Type 0 where
  pub angles : AllReduced arguments
  pub each : SmallGroup (length arguments) group
  pub light : weights (group_terms group) ≤ heaviest

pub record SteadyReady (groups : List Group) (arguments : List ℤ) : Type 0 where
  pub angles : AllReduced arguments
  pub each : Each (SmallGroup (length arguments)) groups
  pub light : weights (steady_terms groups) ≤ heaviest

-- ---- varying amplitudes

-- a row over k arguments
pub record VaryingRow (k : ℕ) (row : List ℤ) : Type 0 where
  pub small : AtMost varying_bounds row
  pub natural : pos 0 ≤ℤ nth row 5
  pub indexed : nat_abs (nth row 5) < k

pub record VaryingReady (rows : List (List ℤ)) (arguments : List ℤ) (q : ℤ) : Type 0 where
  pub angles : AllReduced arguments
  pub moment : nat_abs q ≤ most_millionths
  pub each : Each (VaryingRow (length arguments)) rows
  pub light : weights (varying_terms rows) ≤ heaviest
