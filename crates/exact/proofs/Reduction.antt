-- The laws of reduction to a turn: a congruence, and the short way round.
use mathlib.Core.Path.{◌≡◌, sym, ap}
use Prim.Native.Nat.{ℕ, ◌+◌, ◌*◌, ◌-◌, ◌/◌, ◌%◌, ◌≤◌, ◌<◌, min}
use native.Mathlib.Nat.{le_refl, div-add-mod, mod-lt}
use native.Mathlib.Omega.{arith}
use lib.Dec.{lit<, ltb→lt}
use lib.IntN.{ℤ, pos, negsuc, nat_abs, ◌+ℤ◌, ◌-ℤ◌, ◌*ℤ◌}
use lib.Signed.{◌≤ℤ◌, ◌<ℤ◌, yes_non_neg, pos-nat_abs}
use Rattle.exact.specs.Division.{floor_div}
use Rattle.exact.specs.Reduction.{turn, rest, reduced, apart, short_way}
use Rattle.exact.proofs.Differences.{split, zs}
use Rattle.exact.proofs.Floor.{floor-low, floor-high, floor-is}

-- ---- what a division leaves
pub rest-is : (z : ℤ) (d : ℕ) → 0 < d → z ≡ pos d *ℤ floor_div z d +ℤ pos (rest z d)
unfolding rest
rest-is z d h = let g = go z (floor_div z d) (floor-low z d h) in rw (pos-nat_abs (z -ℤ pos d *ℤ floor_div z d) (yes_non_neg g.0)) g.1
  where
    go : (z q : ℤ) → (pos d *ℤ q) ≤ℤ z → (pos 0 ≤ℤ (z -ℤ pos d *ℤ q)) × (z ≡ pos d *ℤ q +ℤ (z -ℤ pos d *ℤ q))
    go z q = rw (split z, split q) (simp zs (omega arith))

pub rest_lt : (z : ℤ) (d : ℕ) → 0 < d → rest z d < d
rest_lt z d h = go z (floor_div z d) (rest z d) (rest-is z d h) (floor-high z d h)
  where
    go : (z q : ℤ) (r : ℕ) → z ≡ pos d *ℤ q +ℤ pos r → z <ℤ (pos d *ℤ q +ℤ pos d) → r < d
    go z q r = rw (split z, split q) (simp zs (omega arith))

-- nothing else is left
pub rest-unique : (z k : ℤ) (r d : ℕ) → r < d → z ≡ pos d *ℤ k +ℤ pos r → r ≡ rest z d
rest-unique z k r d l e =
    let h : 0 < d = omega arith in
    let b = bounds z k e in
    let q : k ≡ floor_div z d = floor-is z k d h b.0 b.1 in
    go z k (rest z d) e (rw q (rest-is z d h))
  where
    bounds : (z k : ℤ) → z ≡ pos d *ℤ k +ℤ pos r → ((pos d *ℤ k) ≤ℤ z) × (z <ℤ (pos d *ℤ k +ℤ pos d))
    bounds z k = rw (split z, split k) (simp zs (λ e. omega arith))

    go : (z k : ℤ) (s : ℕ) → z ≡ pos d *ℤ k +ℤ pos r → z ≡ pos d *ℤ k +ℤ pos s → r ≡ s
    go z k s = rw (split z, split k) (simp zs (omega arith))

-- the same of an integer in 0..d − 1
pub rest_of : (z k r : ℤ) (d : ℕ) → z ≡ pos d *ℤ k +ℤ r → pos 0 ≤ℤ r → r <ℤ pos d → r ≡ pos (rest z d)
rest_of z k (pos r) d e l u = ap pos (rest-unique z k r d (ltb→lt r d u.lt) e)
rest_of z k (negsuc r) d e l u = absurd l.le

-- with k multiples of d more that make z natural
pub rest-offset : (z k : ℤ) (m d : ℕ) → 0 < d → pos m ≡ z +ℤ k *ℤ pos d → m % d ≡ rest z d
rest-offset z k m d h e = rest-unique z (pos (m / d) -ℤ k) (m % d) d (mod-lt m h) (go z k m (m / d) (m % d) e (div-add-mod m d))
  where
    go : (z k : ℤ) (m q r : ℕ) → pos m ≡ z +ℤ k *ℤ pos d → d * q + r ≡ m → z ≡ pos d *ℤ (pos q -ℤ k) +ℤ pos r
    go z k m q r = rw (split z, split k) (simp zs (omega arith))

-- ---- the angle in one turn
turn-pos : 0 < turn
turn-pos = lit< tt

pub reduced-is : (z : ℤ) → z ≡ pos turn *ℤ floor_div z turn +ℤ pos (reduced z)
unfolding reduced
reduced-is z = rest-is z turn turn-pos

pub reduced-lt : (z : ℤ) → reduced z < turn
unfolding reduced
reduced-lt z = rest_lt z turn turn-pos

pub reduced-unique : (z k : ℤ) (r : ℕ) → r < turn → z ≡ pos turn *ℤ k +ℤ pos r → r ≡ reduced z
unfolding reduced
reduced-unique z k r = rest-unique z k r turn

-- an angle that is reduced already
pub reduced-same : (r : ℕ) → r < turn → reduced (pos r) ≡ r
reduced-same r h = sym (reduced-unique (pos r) (pos 0) r h (go r))
  where
    go : (r : ℕ) → pos r ≡ pos turn *ℤ pos 0 +ℤ pos r
    go r = simp zs (omega arith)

-- ---- reduction is a congruence: whole turns do not matter, and a part of a sum may be reduced first
pub reduced-turns : (z k : ℤ) → reduced (z +ℤ pos turn *ℤ k) ≡ reduced z
reduced-turns z k =
    sym (reduced-unique (z +ℤ pos turn *ℤ k) (floor_div z turn +ℤ k) (reduced z) (reduced-lt z) (go z (floor_div z turn) (reduced z) (reduced-is z)))
  where
    go : (z q : ℤ) (r : ℕ) → z ≡ pos turn *ℤ q +ℤ pos r → z +ℤ pos turn *ℤ k ≡ pos turn *ℤ (q +ℤ k) +ℤ pos r
    go z q r = rw (split z, split q, split k) (simp zs (omega arith))

pub reduced-part : (z w : ℤ) → reduced (pos (reduced z) +ℤ w) ≡ reduced (z +ℤ w)
reduced-part z w =
    sym (reduced-unique (pos (reduced z) +ℤ w) (floor_div (z +ℤ w) turn -ℤ floor_div z turn) (reduced (z +ℤ w)) (reduced-lt (z +ℤ w))
    (go z (floor_div z turn) (floor_div (z +ℤ w) turn) (reduced z) (reduced (z +ℤ w)) (reduced-is z) (reduced-is (z +ℤ w))))
  where
    go : (z q p : ℤ) (r s : ℕ) → z ≡ pos turn *ℤ q +ℤ pos r → z +ℤ w ≡ pos turn *ℤ p +ℤ pos s → pos r +ℤ w ≡ pos turn *ℤ (p -ℤ q) +ℤ pos s
    go z q p r s = rw (split z, split w, split q, split p) (simp zs (omega arith))

-- ---- the short way round is at most the plain distance
pub short-way-le : (z w : ℤ) → short_way (reduced z) (reduced w) ≤ nat_abs (z -ℤ w)
unfolding short_way
short-way-le z w =
    go z w (floor_div z turn) (floor_div w turn) (reduced z) (reduced w) (nat_abs (z -ℤ w)) (reduced-lt z) (reduced-lt w) (reduced-is z) (reduced-is w) (le_refl _)
  where
    go : (z w p q : ℤ) (a b n : ℕ) → a < turn → b < turn → z ≡ pos turn *ℤ p +ℤ pos a → w ≡ pos turn *ℤ q +ℤ pos b → nat_abs (z -ℤ w) ≤ n
        → min (apart a b) (turn - apart a b) ≤ n
    go z w p q a b n = rw (split z, split w, split p, split q) (simp zs (omega arith))
