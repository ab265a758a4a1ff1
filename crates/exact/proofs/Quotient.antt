-- The machine's quotient and remainder, which round toward zero: that they fit, and how what the quotient rounded down leaves comes of them.
use mathlib.Core.Path.{◌≡◌}
use Prim.Native.Nat.{ℕ, zero, suc, ◌/◌, ◌≤◌, ◌<◌}
use native.Mathlib.Nat.{div-add-mod, mod-lt, div-le_self, lt_of_le_of_lt}
use native.Mathlib.Omega.{arith}
use lib.Dec.{ltb→lt}
use lib.IntN.{ℤ, pos, negsuc, neg_ℤ, nat_abs, ◌+ℤ◌, ◌-ℤ◌, ◌*ℤ◌}
use lib.Signed.{mag, mag_rem, quot_z, rem_z, ◌≤ℤ◌, ◌<ℤ◌}
use mir.Syntax.{Width}
use mir.Val.{SFits, of_z}
use Rattle.exact.specs.Division.{floor_div}
use Rattle.exact.specs.Reduction.{rest}
use Rattle.exact.proofs.Differences.{split, zs}
use Rattle.exact.proofs.Reduction.{rest_of}

-- a positive integer is a positive natural
pub data Positive : ℤ → Type 0 where
  some : (n : ℕ) → 0 < n → Positive (pos n)

pub positive : (d : ℤ) → pos 0 <ℤ d → Positive d
positive (pos n) h = some n (ltb→lt 0 n h.lt)
positive (negsuc n) h = absurd h.lt

pub bits_pos : (w : Width) (d : ℤ) → pos 0 <ℤ d → 0 < of_z w d
bits_pos w d h = go (positive d h)
  where
    go : {d : ℤ} → Positive d → 0 < of_z w d
    go (some n p) = p

-- ---- the quotient toward zero
mag-neg : (r a : ℕ) → r ≤ suc a → mag (neg_ℤ (pos r)) ≤ a
mag-neg zero a h = omega arith
mag-neg (suc r) a h = omega arith

pub quot_fits : (w : Width) (a d : ℤ) → SFits w a → pos 0 <ℤ d → SFits w (quot_z a d)
quot_fits w a d f h = go a (positive d h) f
  where
    go : (a : ℤ) {d : ℤ} → Positive d → SFits w a → SFits w (quot_z a d)
    go (pos a) (some n p) f = record { sfits = lt_of_le_of_lt (div-le_self a n) f.sfits }
    go (negsuc a) (some n p) f = record { sfits = lt_of_le_of_lt (mag-neg (suc a / n) a (div-le_self (suc a) n)) f.sfits }

pub rem-fits : (w : Width) (a d : ℤ) → SFits w a → SFits w (rem_z a d)
rem-fits w a d f = record { sfits = lt_of_le_of_lt (mag_rem a d) f.sfits }

pub floor-fits : (w : Width) (a : ℤ) (n : ℕ) → SFits w a → SFits w (floor_div a n)
unfolding floor_div
floor-fits w (pos a) n f = record { sfits = lt_of_le_of_lt (div-le_self a n) f.sfits }
floor-fits w (negsuc a) n f = record { sfits = lt_of_le_of_lt (div-le_self a n) f.sfits }

-- ---- what is left by the quotient toward zero: z = d·q + r, with r nearer to 0 than d
rem-eq : (a : ℤ) (n : ℕ) → a ≡ pos n *ℤ quot_z a (pos n) +ℤ rem_z a (pos n)
rem-eq (pos a) n = let s = div-add-mod a n in simp zs (omega arith)
rem-eq (negsuc a) n = let s = div-add-mod (suc a) n in simp zs (omega arith)

pub rem-abs : (a : ℤ) (n : ℕ) → 0 < n → nat_abs (rem_z a (pos n)) < n
rem-abs (pos a) n h = mod-lt a h
rem-abs (negsuc a) n h = let m = mod-lt (suc a) h in simp zs (omega arith)

-- with d more where it is negative, it is what the quotient rounded down leaves
pub rem-more : (a : ℤ) (n : ℕ) → 0 < n → rem_z a (pos n) <ℤ pos 0 → rem_z a (pos n) +ℤ pos n ≡ pos (rest a n)
rem-more a n h l =
    let q = quot_z a (pos n) in
    let r = rem_z a (pos n) in
    let g = go a q r (rem-eq a n) (rem-abs a n h) l in
    rest_of a (q -ℤ pos 1) (r +ℤ pos n) n g.0 g.1 g.2
  where
    go : (a q r : ℤ) → a ≡ pos n *ℤ q +ℤ r → nat_abs r < n → r <ℤ pos 0
        → (a ≡ pos n *ℤ (q -ℤ pos 1) +ℤ (r +ℤ pos n)) × (pos 0 ≤ℤ (r +ℤ pos n)) × ((r +ℤ pos n) <ℤ pos n)
    go a q r = rw (split a, split q, split r) (simp zs (omega arith))

pub rem-same : (a : ℤ) (n : ℕ) → 0 < n → pos 0 ≤ℤ rem_z a (pos n) → rem_z a (pos n) ≡ pos (rest a n)
rem-same a n h l = rest_of a (quot_z a (pos n)) (rem_z a (pos n)) n (rem-eq a n) l (high (rem_z a (pos n)) (rem-abs a n h))
  where
    high : (r : ℤ) → nat_abs r < n → r <ℤ pos n
    high r = rw (split r) (simp zs (omega arith))
