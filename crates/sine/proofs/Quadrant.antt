-- Sin on 0..Q: one formula for the angles of an interval of the table, both of its ends included, and that each angle lies in one. So no law has a case
-- of its own for Q.
use mathlib.Core.Path.{◌≡◌, refl, sym, ap, ◌∙◌}
use mathlib.Core.Logic.{⊎_elim}
use Prim.Native.Nat.{ℕ, suc, ◌+◌, ◌-◌, ◌*◌, ◌/◌, ◌%◌, ◌≤◌, ◌<◌}
use native.Mathlib.Nat.{add-zero, eq-or-lt_of_le}
use native.Mathlib.Numerals.{add-one}
use native.Mathlib.Omega.{arith}
use lib.Dec.{lit<}
use borrow.Author.Tests.{lt-ltb}
use Rattle.exact.specs.Division.{nearest_div_ℕ}
use Rattle.exact.specs.Reduction.{Q}
use Rattle.exact.proofs.Division.{nearest-whole}
use Rattle.sine_table.specs.Step.{step}
use Rattle.sine_table.specs.Table.{R, entry_at}
use Rattle.sine.specs.Sine.{sin_quadrant}
use Rattle.sine_table.proofs.TableRule.{entry_first, entry-last}

-- v units past entry n and u before the next
abbrev pub mix : ℕ → ℕ → ℕ → ℕ
mix n u v = nearest_div_ℕ (entry_at n * u + entry_at (suc n) * v) step

start_is : (n : ℕ) → mix n step 0 ≡ entry_at n
start_is n = ap (λ (k : ℕ). nearest_div_ℕ k step) (mean (entry_at n) (entry_at (suc n)) step) ∙ nearest-whole (entry_at n) (lit< tt)
  where
    mean : (x y s : ℕ) → x * s + y * 0 ≡ x * s
    mean x y s = omega arith

end_is : (n : ℕ) → mix n 0 step ≡ entry_at (suc n)
end_is n = ap (λ (k : ℕ). nearest_div_ℕ k step) (mean (entry_at n) (entry_at (suc n)) step) ∙ nearest-whole (entry_at (suc n)) (lit< tt)
  where
    mean : (x y s : ℕ) → x * 0 + y * s ≡ y * s
    mean x y s = omega arith

-- inside an interval, by the definition
inside : (n u v : ℕ) → u + v ≡ step → v < step → step * n + v < Q → sin_quadrant (step * n + v) ≡ mix n u v
unfolding sin_quadrant
inside n u v e h k =
    let d : (step * n + v) / step ≡ n = omega arith in
    let m : (step * n + v) % step ≡ v = omega arith in
    let w : step - v ≡ u = omega arith in
    simp (lt-ltb _ _ k, d, m, w, add-one)

-- at the table's angles
pub sin-top : sin_quadrant Q ≡ R
unfolding sin_quadrant
sin-top = refl

pub at_entry : (n : ℕ) → n ≤ Q / step → sin_quadrant (step * n) ≡ entry_at n
at_entry n h = ⊎_elim last below (eq-or-lt_of_le h)
  where
    last : n ≡ Q / step → sin_quadrant (step * n) ≡ entry_at n
    last e = rw e (sin-top ∙ sym entry-last)

    below : n < Q / step → sin_quadrant (step * n) ≡ entry_at n
    below l = ap sin_quadrant (sym (add-zero (step * n))) ∙ inside n step 0 (omega arith) (lit< tt) (omega arith) ∙ start_is n

pub sin-zero : sin_quadrant 0 ≡ 0
sin-zero = at_entry 0 (omega arith) ∙ entry_first

-- in an interval, its ends included
pub sin-at : (n u v : ℕ) → u + v ≡ step → n < Q / step → sin_quadrant (step * n + v) ≡ mix n u v
sin-at n u v e h = ⊎_elim end (λ l. inside n u v e l (omega arith)) (eq-or-lt_of_le (omega arith))
  where
    end : v ≡ step → sin_quadrant (step * n + v) ≡ mix n u v
    end l =
        let z : u ≡ 0 = omega arith in
        let next : step * n + v ≡ step * suc n = omega arith in
        rw (next, l, z) (at_entry (suc n) h ∙ sym (end_is n))

-- every angle lies in an interval
pub record InInterval (a : ℕ) : Type 0 where
  pub n : ℕ
  pub u : ℕ
  pub v : ℕ
  pub parts : u + v ≡ step
  pub low : n < Q / step
  pub is : a ≡ step * n + v

pub in-interval : (a : ℕ) → a ≤ Q → InInterval a
in-interval a h = ⊎_elim last below (eq-or-lt_of_le h)
  where
    last : a ≡ Q → InInterval a
    last e = record { n = Q / step - 1; u = 0; v = step; parts = omega arith; low = omega arith; is = omega arith }

    below : a < Q → InInterval a
    below l = record { n = a / step; u = step - a % step; v = a % step; parts = omega arith; low = omega arith; is = omega arith }
