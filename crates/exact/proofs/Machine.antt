-- What an `i64` holds. A signed local holds bits, so a goal has `to_z w64 (of_z w64 z)` for each z that is read, which is z where z fits.
use mathlib.Core.Path.{◌≡◌, refl, sym, subst}
use mathlib.Core.Bool.{Bool, true, false, not, ◌&&◌, true≢false}
use Prim.Native.Nat.{ℕ, ◌-◌, ◌^◌, ◌≤◌, ◌<◌}
use native.Mathlib.Nat.{lt_of_le_of_lt, lt_of_lt_of_le}
use native.Mathlib.Omega.{arith}
use lib.Dec.{T, leb, ltb, leb→le}
use lib.IntN.{ℤ, pos, negsuc, neg_ℤ, nat_abs, ◌-ℤ◌}
use lib.Signed.{mag, lt_z, le_z, non_neg, ◌≤ℤ◌, ◌<ℤ◌, lt_z_yes, lt_z_no, le_z_yes, yes_non_neg}
use mir.Facts.{to_z-of_z}
use mir.Syntax.{w64}
use mir.Val.{Fits, SFits, of_z, to_z}
use borrow.Author.Tests.{ltb-true, leb-true}
use Rattle.exact.specs.Range.{between}
use Rattle.exact.specs.Reduction.{turn, is_reduced}
use Rattle.exact.proofs.Differences.{split, zs, abs-dif}

-- ---- what the machine reads back
-- At a goal itself `simp (to_z-of_z, f, g, ..) t` puts each z, with a proof f that it fits, at the very number, no `(i : ℕ) → ..`, and t proves what is left.
-- For a lemma over plain numbers, away from `c`: `held z` is a goal's `to_z w64 (of_z w64 z)` under the line `unfolding held`, and `simp (held-is, f, g, ..)` puts z.
unfoldable pub held : ℤ → ℤ
held z = to_z w64 (of_z w64 z)

pub held-is : (z : ℤ) → SFits w64 z → held z ≡ z
unfolding held
held-is z f = to_z-of_z f

-- ---- what fits
-- a parameter x: `c.ranges.x`; the result of a call of f: `ok-fits c.f.result c.f.type_inv`
pub ok-fits : (z : ℤ) → mag z < 2 ^ 63 → SFits w64 z
ok-fits z p = record { sfits = p }

pub abs-fits : (z : ℤ) → nat_abs z < 2 ^ 63 → SFits w64 z
abs-fits z = rw (split z) (simp zs (omega arith))

-- what a literal bounds: `fits_lt (2 ^ 45) z h refl`
pub fits_lt : (n : ℕ) (z : ℤ) → nat_abs z < n → leb n (2 ^ 63) ≡ true → SFits w64 z
fits_lt n z h e = abs-fits z (lt_of_lt_of_le h (leb-true n (2 ^ 63) e))

pub fits_le : (n : ℕ) (z : ℤ) → nat_abs z ≤ n → ltb n (2 ^ 63) ≡ true → SFits w64 z
fits_le n z h e = abs-fits z (lt_of_le_of_lt h (ltb-true n (2 ^ 63) e))

-- ---- a test of two signed numbers, as a branch leaves it: `is_lt c.if-a-b.true`, `is_ge c.if-a-b.false`
pub is_lt : {a b : ℤ} → lt_z a b ≡ true → a <ℤ b
is_lt e = lt_z_yes (subst T (sym e) tt)

pub is_ge : {a b : ℤ} → lt_z a b ≡ false → b ≤ℤ a
is_ge e = lt_z_no (subst (λ (x : Bool). T (not x)) (sym e) tt)

pub and-true : (a b : Bool) → (a && b) ≡ true → (a ≡ true) × (b ≡ true)
and-true true b e = (refl, e)
and-true false b e = (e, absurd (true≢false (sym e)))

pub is_le : {a b : ℤ} → le_z a b ≡ true → a ≤ℤ b
is_le e = le_z_yes (subst T (sym e) tt)

-- ---- a magnitude is a word of 64 bits
pub abs_word : (z : ℤ) → SFits w64 z → Fits w64 (nat_abs z)
abs_word (pos n) f = record { fits = omega (arith, f.sfits) }
abs_word (negsuc n) f = record { fits = omega (arith, f.sfits) }

-- ---- −z, as the code works it out
pub negated : (z : ℤ) → nat_abs z < 2 ^ 62 → SFits w64 (pos 0 -ℤ z) × (pos 0 -ℤ z ≡ neg_ℤ z) × (nat_abs (pos 0 -ℤ z) ≡ nat_abs z)
negated z = rw (split z) (simp (zs, abs-dif) (omega arith))

-- ---- casts: `x as u64` of an x that is not negative, and `n as i64`
pub to-nat : (z : ℤ) → pos 0 ≤ℤ z → SFits w64 z → T (non_neg z) × Fits w64 (nat_abs z)
to-nat z h f = (yes_non_neg h, abs_word z f)

pub as-signed : (n : ℕ) → n < 2 ^ 63 → to_z w64 n ≡ pos n
as-signed n h = to_z-of_z {w = w64} {z = pos n} (record { sfits = h })

-- ---- a range that was tested
pub between-low : (low z high : ℤ) → between low z high ≡ true → low ≤ℤ z
unfolding between
between-low low z high e = is_le (and-true (le_z low z) (le_z z high) e).0

pub between-high : (low z high : ℤ) → between low z high ≡ true → z ≤ℤ high
unfolding between
between-high low z high e = is_le (and-true (le_z low z) (le_z z high) e).1

both : (p q : Bool) → T p → T q → (p && q) ≡ true
both true true t u = refl
both true false t u = absurd u
both false q t u = absurd t

pub between-yes : (low z high : ℤ) → low ≤ℤ z → z ≤ℤ high → between low z high ≡ true
unfolding between
between-yes low z high p q = both (le_z low z) (le_z z high) p.le q.le

-- where it starts at a natural number, so is what lies in it
pub between-nat : (l h : ℕ) (z : ℤ) → between (pos l) z (pos h) ≡ true → (z ≡ pos (nat_abs z)) × (l ≤ nat_abs z) × (nat_abs z ≤ h)
between-nat l h (pos n) e = (refl, leb→le l n (between-low (pos l) (pos n) (pos h) e).le, leb→le n h (between-high (pos l) (pos n) (pos h) e).le)
between-nat l h (negsuc n) e = absurd (between-low (pos l) (negsuc n) (pos h) e).le

-- ---- reduced angles
pub nat-reduced : (n : ℕ) → n < turn → is_reduced (pos n) ≡ true
nat-reduced n h = between-yes (pos 0) (pos n) (pos (turn - 1)) (low n) (high n h)
  where
    low : (n : ℕ) → pos 0 ≤ℤ pos n
    low n = simp zs (omega arith)

    high : (n : ℕ) → n < turn → pos n ≤ℤ pos (turn - 1)
    high n = simp zs (omega arith)

-- they differ by less than a turn
pub reduced-apart : (a b : ℤ) → is_reduced a ≡ true → is_reduced b ≡ true → nat_abs (a -ℤ b) < turn
reduced-apart a b p q = go a b (between-low _ _ _ p) (between-high _ _ _ p) (between-low _ _ _ q) (between-high _ _ _ q)
  where
    go : (a b : ℤ) → pos 0 ≤ℤ a → a ≤ℤ pos (turn - 1) → pos 0 ≤ℤ b → b ≤ℤ pos (turn - 1) → nat_abs (a -ℤ b) < turn
    go a b = rw (split a, split b) (simp zs (omega arith))
