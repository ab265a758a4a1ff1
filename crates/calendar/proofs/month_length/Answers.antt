-- Each month's length is the one in the list of the definition.
use mathlib.Core.Path.{◌≡◌, sym, ◌∙◌}
use mathlib.Core.Bool.{Bool, ◌||◌, true, false}
use mathlib.Core.Logic.{◌⊎◌, inl, inr}
use Prim.Native.Nat.{ℕ, ◌-◌, ◌≤◌}
use native.Mathlib.Omega.{arith}
use lib.Dec.{T, eqb, eqb→eq}
use lib.ListN.{get_or}
use borrow.Author.Tests.{ne_eqb}
use Rattle.exact.proofs.AllBelow.{below_all}
use Rattle.calendar.specs.Date.{leap_year, months, month_length}
use Rattle.calendar.proofs.month_length.Goals as goal

thirty : (leap : Bool) (m : ℕ) → (m ≡ 4) ⊎ ((m ≡ 6) ⊎ ((m ≡ 9) ⊎ (m ≡ 11))) → 30 ≡ get_or (months leap) (m - 1) 0
thirty leap m (inl e) = rw e
thirty leap m (inr (inl e)) = rw e
thirty leap m (inr (inr (inl e))) = rw e
thirty leap m (inr (inr (inr e))) = rw e

-- every other month but the second
longest_rule : Bool → ℕ → Bool
longest_rule leap k = eqb k 1 || (eqb k 3 || (eqb k 5 || (eqb k 8 || (eqb k 10 || eqb 31 (get_or (months leap) k 0)))))

longest : (leap : Bool) (k : ℕ) → k ≤ 11 → (k ≡ 1 → ⊥) → (k ≡ 3 → ⊥) → (k ≡ 5 → ⊥) → (k ≡ 8 → ⊥) → (k ≡ 10 → ⊥) → 31 ≡ get_or (months leap) k 0
unfolding longest_rule
longest leap k h a b d e f = eqb→eq 31 _ (simp (ne_eqb k 1 a, ne_eqb k 3 b, ne_eqb k 5 d, ne_eqb k 8 e, ne_eqb k 10 f) at (rule leap))
  where
    rule : (leap : Bool) → T (longest_rule leap k)
    rule true = below_all (longest_rule true) 12 k tt (omega arith)
    rule false = below_all (longest_rule false) 12 k tt (omega arith)

pub returns-in-2 : goal.returns-in-2
unfolding month_length
returns-in-2 c = (simp (c.in-2.is, sym c.leap_year.ensures ∙ c.if-leap_year.true), omega arith)

pub returns-in-2-2 : goal.returns-in-2-2
unfolding month_length
returns-in-2-2 c = (simp (c.in-2.is, sym c.leap_year.ensures ∙ c.if-leap_year.false), omega arith)

pub returns-in-4 : goal.returns-in-4
unfolding month_length
returns-in-4 c = (thirty (leap_year c.args.year) c.args.month c.in-4.is, omega arith)

pub returns-in_default : goal.returns-in_default
unfolding month_length
returns-in_default c =
    let m = c.args.month - 1 in
    (longest (leap_year c.args.year) m (omega arith) (λ e. grind arith) (λ e. grind arith) (λ e. grind arith) (λ e. grind arith) (λ e. grind arith), omega arith)
