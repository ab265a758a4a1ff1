-- The entries of the table: what its list holds at each index, and what holds of each step from an entry to the next.
use mathlib.Core.Path.{◌≡◌, refl, ap, ◌∙◌, sym}
use mathlib.Core.Bool.{Bool}
use mathlib.Core.List.{List, [], ◌∷◌}
use Prim.Native.Nat.{ℕ, zero, suc, ◌+◌, ◌-◌, ◌*◌, ◌/◌, ◌≤◌, ◌<◌}
use native.Mathlib.Nat.{le_of_suc-le-suc, not-suc-le-zero, add-zero, zero-add, add-suc, suc-add}
use native.Mathlib.Omega.{arith}
use lib.Dec.{T, lit<}
use lib.ListN.{get_or}
use Rattle.exact.specs.Division.{nearest_div_ℕ}
use Rattle.exact.proofs.Division.{Rounds, rounds}
use Rattle.exact.proofs.AllBelow.{all_below, below_all, all_le, all-le, climbs}
use Rattle.sine_table.specs.Step.{step}
use Rattle.sine_table.specs.SinePolynomial.{poly_num, poly_den, term, cofactor, arc, whole}
use Rattle.sine_table.proofs.StepFigures.{squares_above, squares_below, squared_chord}
use Rattle.sine_table.specs.Table.{R, entry_by, entry_at, step_count, entry_count, entries_from, entries}

-- ---- the list

from : (n k i : ℕ) → i < k → get_or (entries_from n k) i 0 ≡ entry_at (n + i)
unfolding entries_from
from n zero i h = absurd (not-suc-le-zero h)
from n (suc k) zero h = ap entry_at (sym (add-zero n))
from n (suc k) (suc i) h = from (suc n) k i (le_of_suc-le-suc h) ∙ ap entry_at (suc-add n i ∙ sym (add-suc n i))

-- the table's test, carried to each entry
pub entry-at : (n : ℕ) → n < entry_count → get_or entries n 0 ≡ entry_at n
unfolding entries
entry-at n h = from 0 entry_count n h ∙ ap entry_at (zero-add n)

-- ---- the rounding of an entry
pub den_pos : 0 < poly_den
unfolding poly_den whole
den_pos = lit< tt

pub entry-rounds : (n : ℕ) → Rounds (R * poly_num (step * n)) poly_den (entry_at n)
unfolding entry_by
entry-rounds n = rounds (R * poly_num (step * n)) den_pos

-- ---- a step of the table

-- of a step from the entry e to e', and of its mirror in the quadrant from f to f': at its start the sine is e and the cosine f', at its end e' and f
pub record StepLaw (e e' f f' : ℕ) : Type 0 where
  pub rises : e ≤ e'
  -- by half a step at most: a unit of angle is less than half a unit of a sine
  pub gentle : e' ≤ e + step / 2
  -- step·(e + f') is at most 2.95 times f'·e' − e·f (2.92 times, at 45°)
  pub steep : 20 * (step * (e + f')) + 59 * (e * f) ≤ 59 * (f' * e')
  pub most : e * e + f' * f' + e + f' ≤ R * R + squares_above
  pub least : R * R ≤ e * e + f' * f' + squares_below
  pub chord : (e' - e) * (e' - e) + (f' - f) * (f' - f) ≤ squared_chord

-- the same as pairs, for antt to compute of every step
pairs : ℕ → ℕ → ℕ → ℕ → List (ℕ × ℕ)
pairs e e' f f' =
    (e, e') ∷ (e', e + step / 2) ∷ (20 * (step * (e + f')) + 59 * (e * f), 59 * (f' * e')) ∷ (e * e + f' * f' + e + f', R * R + squares_above)
    ∷ (R * R, e * e + f' * f' + squares_below) ∷ ((e' - e) * (e' - e) + (f' - f) * (f' - f), squared_chord) ∷ []

abbrev step_test : ℕ → Bool
step_test n = all_le (pairs (entry_at n) (entry_at (suc n)) (entry_at (step_count - suc n)) (entry_at (step_count - n)))

all-steps : T (all_below step_test step_count)
unfolding pairs entry_by nearest_div_ℕ poly_num poly_den term cofactor arc whole
all-steps = tt

law : (e e' f f' : ℕ) → T (all_le (pairs e e' f f')) → StepLaw e e' f f'
unfolding pairs
law e e' f f' t =
    let h = all-le (pairs e e' f f') t in
    record { rises = h.0; gentle = h.1.0; steep = h.1.1.0; most = h.1.1.1.0; least = h.1.1.1.1.0; chord = h.1.1.1.1.1.0 }

-- the step from entry n on, and its mirror from entry m on
pub step-law : (n m : ℕ) → suc (n + m) ≡ step_count → StepLaw (entry_at n) (entry_at (suc n)) (entry_at m) (entry_at (suc m))
step-law n m e =
    let k : step_count - n ≡ suc m = omega arith in
    let l : step_count - suc n ≡ m = omega arith in
    law _ _ _ _ (rw (k, l) at (below_all step_test step_count n all-steps (omega arith)))

-- ---- the order
pub entry-climbs : (m n : ℕ) → m ≤ n → n ≤ step_count → entry_at m ≤ entry_at n
entry-climbs = climbs entry_at step_count (λ n h. (step-law n (step_count - suc n) (omega arith)).rises)

pub entry_first : entry_at 0 ≡ 0
unfolding entry_by nearest_div_ℕ poly_num poly_den term cofactor arc whole
entry_first = refl

pub entry-last : entry_at step_count ≡ R
unfolding entry_by nearest_div_ℕ poly_num poly_den term cofactor arc whole
entry-last = refl

pub entry-le : (n : ℕ) → n < entry_count → entry_at n ≤ R
entry-le n h = rw entry-last at (entry-climbs n step_count (omega arith) (omega arith))
