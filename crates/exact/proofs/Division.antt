-- The laws of `floor_div` and `nearest_div`: how they move with the number divided, and what `nearest_div` is, which nothing else is.
use mathlib.Core.Path.{◌≡◌, refl, sym, ap, ap₂, ◌∙◌}
use Prim.Native.Nat.{ℕ, ◌+◌, ◌*◌, ◌/◌, ◌%◌, ◌≤◌, ◌<◌}
use native.Mathlib.Nat.{mul_comm, mul-add, mul-one, mul-pos, mul-div-le, lt-mul-div-succ, div-add-mod, mod-lt, div-lt_iff_lt-mul, le_of_suc-le-suc, lt_of_mul-lt-mul_left}
use native.Mathlib.Omega.{arith}
use lib.Dec.{leb→le, le→leb}
use lib.IntN.{ℤ, pos, negsuc, nat_abs, ◌+ℤ◌, ◌-ℤ◌, ◌*ℤ◌}
use lib.Signed.{◌≤ℤ◌, ◌<ℤ◌, le_z_yes}
use Rattle.exact.specs.Division.{floor_div, nearest_div, nearest_div_ℕ}
use Rattle.exact.proofs.Differences.{split, zs, abs-dif}
use Rattle.exact.proofs.Floor.{floor-low, floor-high, floor-is}
use Rattle.exact.proofs.Integers.{<-next, *-mono, within_step, abs-*}

-- a bound of d·q and d more, moved with the quotient
raised : (d : ℕ) (z k q : ℤ) → z <ℤ (pos d *ℤ q +ℤ pos d) → (z +ℤ pos d *ℤ k) <ℤ (pos d *ℤ (q +ℤ k) +ℤ pos d)
raised d z k q = rw (split z, split k, split q) (simp zs (omega arith))

-- ---- how it moves with z: at most k further for k·d more, so in order, and exactly k further for exactly k·d more
pub floor-near : (z w k : ℤ) (d : ℕ) → 0 < d → z ≤ℤ (w +ℤ pos d *ℤ k) → floor_div z d ≤ℤ (floor_div w d +ℤ k)
floor-near z w k d h le =
    within_step d (floor_div z d) (floor_div w d +ℤ k) z (w +ℤ pos d *ℤ k) (floor-low z d h) le
    (raised d w k (floor_div w d) (floor-high w d h))

pub floor-mono : (z w : ℤ) (d : ℕ) → 0 < d → z ≤ℤ w → floor_div z d ≤ℤ floor_div w d
floor-mono z w d h le =
    within_step d (floor_div z d) (floor_div w d) z w (floor-low z d h) le (floor-high w d h)

pub floor-add : (z k : ℤ) (d : ℕ) → 0 < d → floor_div (z +ℤ pos d *ℤ k) d ≡ floor_div z d +ℤ k
floor-add z k d h =
    sym (floor-is (z +ℤ pos d *ℤ k) (floor_div z d +ℤ k) d h (low z k (floor_div z d) (floor-low z d h)) (raised d z k (floor_div z d) (floor-high z d h)))
  where
    low : (z k q : ℤ) → (pos d *ℤ q) ≤ℤ z → (pos d *ℤ (q +ℤ k)) ≤ℤ (z +ℤ pos d *ℤ k)
    low z k q = rw (split z, split k, split q) (simp zs (omega arith))

-- ---- how large it is
pub floor-abs : (z : ℤ) (d k : ℕ) → 0 < d → nat_abs z ≤ k * d → nat_abs (floor_div z d) ≤ k
unfolding floor_div
floor-abs (pos a) d k h b = le_of_suc-le-suc ((div-lt_iff_lt-mul h).1 (omega arith))
floor-abs (negsuc a) d k h b = (div-lt_iff_lt-mul h).1 b

-- with k multiples of d more it is natural, and they are taken away from the quotient
pub floor-offset : (z k : ℤ) (m d : ℕ) → 0 < d → pos m ≡ z +ℤ k *ℤ pos d → pos (m / d) -ℤ k ≡ floor_div z d
floor-offset z k m d h e =
    let g = go z k m (m / d) (m % d) e (div-add-mod m d) (mod-lt m h) in
    floor-is z (pos (m / d) -ℤ k) d h g.0 g.1
  where
    go : (z k : ℤ) (m q r : ℕ) → pos m ≡ z +ℤ k *ℤ pos d → d * q + r ≡ m → r < d
        → ((pos d *ℤ (pos q -ℤ k)) ≤ℤ z) × (z <ℤ (pos d *ℤ (pos q -ℤ k) +ℤ pos d))
    go z k m q r = rw (split z, split k) (simp zs (omega arith))

-- ---- to the nearest: at most half of d away
two_pos : (d : ℕ) → 0 < d → 0 < 2 * d
two_pos d h = omega arith

pub nearest-low : (z : ℤ) (d : ℕ) → 0 < d → (pos (2 * d) *ℤ nearest_div z d) ≤ℤ (pos 2 *ℤ z +ℤ pos d)
unfolding nearest_div
nearest-low z d h = floor-low (pos 2 *ℤ z +ℤ pos d) (2 * d) (two_pos d h)

pub nearest-high : (z : ℤ) (d : ℕ) → 0 < d → (pos 2 *ℤ z) <ℤ (pos (2 * d) *ℤ nearest_div z d +ℤ pos d)
unfolding nearest_div
nearest-high z d h = go z (nearest_div z d) (floor-high (pos 2 *ℤ z +ℤ pos d) (2 * d) (two_pos d h))
  where
    go : (z q : ℤ) → (pos 2 *ℤ z +ℤ pos d) <ℤ (pos (2 * d) *ℤ q +ℤ pos (2 * d)) → (pos 2 *ℤ z) <ℤ (pos (2 * d) *ℤ q +ℤ pos d)
    go z q = rw (split z, split q) (simp zs (omega arith))

pub nearest-is : (z q : ℤ) (d : ℕ) → 0 < d → (pos (2 * d) *ℤ q) ≤ℤ (pos 2 *ℤ z +ℤ pos d) → (pos 2 *ℤ z) <ℤ (pos (2 * d) *ℤ q +ℤ pos d) → q ≡ nearest_div z d
unfolding nearest_div
nearest-is z q d h l u = floor-is (pos 2 *ℤ z +ℤ pos d) q (2 * d) (two_pos d h) l (go z q u)
  where
    go : (z q : ℤ) → (pos 2 *ℤ z) <ℤ (pos (2 * d) *ℤ q +ℤ pos d) → (pos 2 *ℤ z +ℤ pos d) <ℤ (pos (2 * d) *ℤ q +ℤ pos (2 * d))
    go z q = rw (split z, split q) (simp zs (omega arith))

-- half of d more, rounded down, also of an odd d
pub nearest-half : (z : ℤ) (d : ℕ) → 0 < d → floor_div (z +ℤ pos (d / 2)) d ≡ nearest_div z d
nearest-half z d h =
    let w = z +ℤ pos (d / 2) in
    let g = go z (floor_div w d) (floor-low w d h) (floor-high w d h) in
    nearest-is z (floor_div w d) d h g.0 g.1
  where
    go : (z q : ℤ) → (pos d *ℤ q) ≤ℤ (z +ℤ pos (d / 2)) → (z +ℤ pos (d / 2)) <ℤ (pos d *ℤ q +ℤ pos d)
        → ((pos (2 * d) *ℤ q) ≤ℤ (pos 2 *ℤ z +ℤ pos d)) × ((pos 2 *ℤ z) <ℤ (pos (2 * d) *ℤ q +ℤ pos d))
    go z q = rw (split z, split q) (simp zs (omega arith))

-- ---- distances: z and w are at most k apart
abbrev pub Within : ℤ → ℤ → ℕ → Type 0
Within z w k = (z ≤ℤ (w +ℤ pos k)) × (w ≤ℤ (z +ℤ pos k))

-- the nearest multiple of d is at most half of d away
pub nearest-error : (z : ℤ) (d : ℕ) → 0 < d → Within (pos (2 * d) *ℤ nearest_div z d) (pos 2 *ℤ z) d
nearest-error z d h = go (pos 2 *ℤ z) (pos (2 * d) *ℤ nearest_div z d) (nearest-low z d h) (nearest-high z d h)
  where
    go : (z w : ℤ) → w ≤ℤ (z +ℤ pos d) → z <ℤ (w +ℤ pos d) → Within w z d
    go z w = rw (split z, split w) (simp zs (omega arith))

-- numbers at most k·d apart are rounded to numbers at most k apart
pub nearest-within : (z w : ℤ) (d k : ℕ) → 0 < d → Within z w (d * k) → Within (nearest_div z d) (nearest_div w d) k
unfolding nearest_div
nearest-within z w d k h p = (
  floor-near (pos 2 *ℤ z +ℤ pos d) (pos 2 *ℤ w +ℤ pos d) (pos k) (2 * d) (two_pos d h) (go z w p.0),
  floor-near (pos 2 *ℤ w +ℤ pos d) (pos 2 *ℤ z +ℤ pos d) (pos k) (2 * d) (two_pos d h) (go w z p.1),
)
  where
    go : (z w : ℤ) → z ≤ℤ (w +ℤ pos (d * k)) → (pos 2 *ℤ z +ℤ pos d) ≤ℤ (pos 2 *ℤ w +ℤ pos d +ℤ pos (2 * d) *ℤ pos k)
    go z w = rw (split z, split w) (simp zs (omega arith))

-- rounding adds half of d at most, and so a quotient between −k and k is rounded to a number between them
pub nearest-size : (z : ℤ) (d : ℕ) → 0 < d → 2 * d * nat_abs (nearest_div z d) ≤ 2 * nat_abs z + d
nearest-size z d h = rw abs-* at (go (pos (2 * d) *ℤ nearest_div z d) z (nearest-error z d h))
  where
    go : (w z : ℤ) → Within w (pos 2 *ℤ z) d → nat_abs w ≤ 2 * nat_abs z + d
    go w z = rw (split w, split z) (simp (zs, abs-dif) (omega arith))

pub nearest-abs : (z : ℤ) (d k : ℕ) → 0 < d → nat_abs z ≤ d * k → nat_abs (nearest_div z d) ≤ k
nearest-abs z d k h b = le_of_suc-le-suc (lt_of_mul-lt-mul_left (2 * d) (omega (arith, nearest-size z d h)))

-- a multiple of d
pub nearest-multiple : (x : ℤ) (d : ℕ) → 0 < d → nearest_div (pos d *ℤ x) d ≡ x
nearest-multiple x d h = let g = go x in sym (nearest-is (pos d *ℤ x) x d h g.0 g.1)
  where
    go : (x : ℤ) → ((pos (2 * d) *ℤ x) ≤ℤ (pos 2 *ℤ (pos d *ℤ x) +ℤ pos d)) × ((pos 2 *ℤ (pos d *ℤ x)) <ℤ (pos (2 * d) *ℤ x +ℤ pos d))
    go x = rw (split x) (simp zs (omega arith))

-- ---- the same fraction with another denominator
pub floor-scale : (z : ℤ) (d e : ℕ) → 0 < d → 0 < e → floor_div (pos e *ℤ z) (e * d) ≡ floor_div z d
floor-scale z d e hd he =
    let q = floor_div z d in
    sym (floor-is (pos e *ℤ z) q (e * d) (mul-pos he hd) (low q z (*-mono e (pos d *ℤ q) z (floor-low z d hd)))
    (high q z (*-mono e (z +ℤ pos 1) (pos d *ℤ q +ℤ pos d) (<-next z (pos d *ℤ q +ℤ pos d) (floor-high z d hd)))))
  where
    low : (q z : ℤ) → (pos e *ℤ (pos d *ℤ q)) ≤ℤ (pos e *ℤ z) → (pos (e * d) *ℤ q) ≤ℤ (pos e *ℤ z)
    low q z = rw (split q, split z) (simp zs (omega arith))

    high : (q z : ℤ) → (pos e *ℤ (z +ℤ pos 1)) ≤ℤ (pos e *ℤ (pos d *ℤ q +ℤ pos d)) → (pos e *ℤ z) <ℤ (pos (e * d) *ℤ q +ℤ pos (e * d))
    high q z = rw (split q, split z) (simp zs (omega arith))

pub nearest-scale : (z : ℤ) (d e : ℕ) → 0 < d → 0 < e → nearest_div (pos e *ℤ z) (e * d) ≡ nearest_div z d
unfolding nearest_div
nearest-scale z d e hd he = ap₂ floor_div (over z) under ∙ floor-scale (pos 2 *ℤ z +ℤ pos d) (2 * d) e (two_pos d hd) he
  where
    over : (z : ℤ) → pos 2 *ℤ (pos e *ℤ z) +ℤ pos (e * d) ≡ pos e *ℤ (pos 2 *ℤ z +ℤ pos d)
    over z = rw (split z) (simp zs (omega arith))

    under : 2 * (e * d) ≡ e * (2 * d)
    under = omega arith

-- ---- the Lipschitz law
-- two exact numbers z / d and w / e at most k apart, k whole, have nearest numbers at most k apart
pub nearest-near : (z w : ℤ) (d e k : ℕ) → 0 < d → 0 < e → Within (pos e *ℤ z) (pos d *ℤ w) (d * e * k) → Within (nearest_div z d) (nearest_div w e) k
nearest-near z w d e k hd he p =
    rw (← nearest-scale z d e hd he, ← nearest-scale w e d he hd, mul_comm e d)
    (nearest-within (pos e *ℤ z) (pos d *ℤ w) (d * e) k (mul-pos hd he) p)

-- ---- a quotient that is not negative
-- `nearest_div_ℕ` is `nearest_div`
pub nearest-pos : (a d : ℕ) → nearest_div (pos a) d ≡ pos (nearest_div_ℕ a d)
unfolding nearest_div nearest_div_ℕ floor_div
nearest-pos a d = refl

-- k is x / d to nearest: at most the quotient and a half, and above the quotient less a half
abbrev pub Rounds : ℕ → ℕ → ℕ → Type 0
Rounds x d k = (2 * d * k ≤ 2 * x + d) × (2 * x + d < 2 * d * k + 2 * d)

pub rounds : (x : ℕ) {d : ℕ} → 0 < d → Rounds x d (nearest_div_ℕ x d)
unfolding nearest_div_ℕ
rounds x {d} h = (mul-div-le (2 * x + d) (2 * d), rw (mul-add, mul-one) at (lt-mul-div-succ (2 * x + d) (two_pos d h)))

pub nearest-mono : {x y d : ℕ} → 0 < d → x ≤ y → nearest_div_ℕ x d ≤ nearest_div_ℕ y d
unfolding nearest_div_ℕ floor_div
nearest-mono {x} {y} {d} h p =
    leb→le _ _ (floor-mono (pos (2 * x + d)) (pos (2 * y + d)) (2 * d) (two_pos d h) (le_z_yes (le→leb (2 * x + d) (2 * y + d) (omega arith)))).le

-- of a multiple of the divisor
pub nearest-whole : (k : ℕ) {d : ℕ} → 0 < d → nearest_div_ℕ (k * d) d ≡ k
nearest-whole k {d} h =
    let e : nearest_div (pos (k * d)) d ≡ pos k = rw (mul_comm k d) (nearest-multiple (pos k) d h) in
    ap nat_abs (sym (nearest-pos (k * d) d) ∙ e)
