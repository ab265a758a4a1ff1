-- Statements over ℤ by `omega`, which reads only ℕ. Every integer z is a difference `dif (up z) (dn z)` of two naturals (`split z`), and a sum, a product, an
-- equation, an order or a bound of differences is one of naturals: the set `zs`, at the end. So a lemma over plain variables is proved by one line,
--     foo a b c = rw (split a, split b, split c) (simp zs (omega arith))
-- with its hypotheses left in the goal, not bound on the left: `simp` rewrites them too, and `omega` enters them. A conjunction of conclusions, `A × B × C`, is one call.
--   * A term that is no variable, as `floor_div z d`, is made one: a helper `go : (z q : ℤ) → ..`, called at `go z (floor_div z d)`.
--   * Write `(a +ℤ b) ≤ℤ c` with its parentheses: `◌≤ℤ◌` and `◌<ℤ◌` bind tighter than `◌+ℤ◌` and `◌*ℤ◌`.
--   * `omega` multiplies out up to 64 monomials: products of three variables pass, and one product of four.
--   * An order with a product of two variables wants its factor handed over: `simp zs (λ h. omega (arith, mul-le-mul_left d h))`, as `*-mono` of `Integers`.
--   * A sum of absolute values, `nat_abs a + nat_abs b < n`, wants `simp (zs, abs-dif)`.
use mathlib.Core.Path.{◌≡◌, refl, sym, ap, ap₂, ◌∙◌, subst}
use mathlib.Core.Logic.{◌↔◌}
use mathlib.Core.Bool.{Bool, true, false, not, cond}
use Prim.Native.Nat.{ℕ, zero, suc, ◌+◌, ◌*◌, ◌-◌, ◌^◌, ◌≤◌, ◌<◌}
use native.Mathlib.Decide.{dec_le}
use native.Mathlib.Omega.{arith}
use lib.Dec.{T, ltb, ltb→lt, lt→ltb, nltb→le, leb→le, le→leb}
use lib.Arith.{le→nltb}
use lib.IntN.{ℤ, pos, negsuc, sub_ℕ, neg_ℤ, nat_abs, ◌+ℤ◌, ◌*ℤ◌}
use lib.Signed.{le_z, lt_z, ◌≤ℤ◌, ◌<ℤ◌, le_z_yes, lt_z_yes, lt_z_no, clash_ℤ}
use mir.Syntax.{Width}
use mir.Val.{SFits, hbits}

-- a − b
unfoldable pub dif : ℕ → ℕ → ℤ
dif a b = sub_ℕ a b

-- z is up z − dn z
abbrev pub up : ℤ → ℕ
up (pos n) = n
up (negsuc n) = 0

abbrev pub dn : ℤ → ℕ
dn (pos n) = 0
dn (negsuc n) = suc n

-- ---- the two forms of a difference
cond_no : (c : Bool) (x y : ℤ) → T (not c) → cond c x y ≡ y
cond_no true x y t = absurd t
cond_no false x y t = refl

cond_yes : (c : Bool) (x y : ℤ) → T c → cond c x y ≡ x
cond_yes true x y t = refl
cond_yes false x y t = absurd t

pub at-pos : (a b k : ℕ) → a ≡ b + k → dif a b ≡ pos k
unfolding dif
at-pos a b k e = cond_no (ltb a b) (negsuc (b - suc a)) (pos (a - b)) (le→nltb a b (omega arith)) ∙ ap pos rest
  where
    rest : a - b ≡ k
    rest = omega arith

pub at-neg : (a b k : ℕ) → b ≡ a + suc k → dif a b ≡ negsuc k
unfolding dif
at-neg a b k e = cond_yes (ltb a b) (negsuc (b - suc a)) (pos (a - b)) (lt→ltb a b (omega arith)) ∙ ap negsuc rest
  where
    rest : b - suc a ≡ k
    rest = omega arith

pub data Form (a b : ℕ) : Type 0 where
  plus : (k : ℕ) → a ≡ b + k → Form a b
  minus : (k : ℕ) → b ≡ a + suc k → Form a b

pub form : (a b : ℕ) → Form a b
form a b = by (ltb a b) refl
  where
    by : (c : Bool) → ltb a b ≡ c → Form a b
    by true e = minus (b - suc a) (let h : a < b = ltb→lt a b (subst T (sym e) tt) in omega arith)
    by false e = plus (a - b) (let h : b ≤ a = nltb→le a b (subst (λ (x : Bool). T (not x)) (sym e) tt) in omega arith)

pub split : (z : ℤ) → z ≡ dif (up z) (dn z)
split (pos n) = sym (at-pos n 0 n (omega arith))
split (negsuc n) = sym (at-neg 0 (suc n) n (omega arith))

pub pos-dif : (n : ℕ) → pos n ≡ dif n 0
pos-dif n = split (pos n)

pub negsuc-dif : (n : ℕ) → negsuc n ≡ dif 0 (suc n)
negsuc-dif n = split (negsuc n)

-- ---- equality
pub dif-eq : (a b c d : ℕ) → a + d ≡ c + b → dif a b ≡ dif c d
dif-eq a b c d e = go (form a b) (form c d)
  where
    go : Form a b → Form c d → dif a b ≡ dif c d
    go (plus k p) (plus l q) = at-pos a b k p ∙ sym (at-pos c d k (omega arith))
    go (plus k p) (minus l q) = absurd (omega arith)
    go (minus k p) (plus l q) = absurd (omega arith)
    go (minus k p) (minus l q) = at-neg a b k p ∙ sym (at-neg c d k (omega arith))

up-dif : (a b : ℕ) → up (dif a b) ≡ a - b
up-dif a b = go (form a b)
  where
    go : Form a b → up (dif a b) ≡ a - b
    go (plus k p) = ap up (at-pos a b k p) ∙ omega arith
    go (minus k p) = ap up (at-neg a b k p) ∙ omega arith

dn-dif : (a b : ℕ) → dn (dif a b) ≡ b - a
dn-dif a b = go (form a b)
  where
    go : Form a b → dn (dif a b) ≡ b - a
    go (plus k p) = ap dn (at-pos a b k p) ∙ omega arith
    go (minus k p) = ap dn (at-neg a b k p) ∙ omega arith

pub dif-inj : (a b c d : ℕ) → dif a b ≡ dif c d → a + d ≡ c + b
dif-inj a b c d e =
    let u : a - b ≡ c - d = sym (up-dif a b) ∙ ap up e ∙ up-dif c d in
    let v : b - a ≡ d - c = sym (dn-dif a b) ∙ ap dn e ∙ dn-dif c d in
    omega arith

pub eq-dif : (a b c d : ℕ) → (dif a b ≡ dif c d) ↔ (a + d ≡ c + b)
eq-dif a b c d = (dif-inj a b c d, dif-eq a b c d)

-- ---- the operations
pub neg-dif : (a b : ℕ) → neg_ℤ (dif a b) ≡ dif b a
neg-dif a b = go (form a b)
  where
    neg-pos : (k : ℕ) → neg_ℤ (pos k) ≡ dif 0 k
    neg-pos zero = pos-dif 0
    neg-pos (suc k) = negsuc-dif k

    go : Form a b → neg_ℤ (dif a b) ≡ dif b a
    go (plus k p) = ap neg_ℤ (at-pos a b k p) ∙ neg-pos k ∙ dif-eq 0 k b a (omega arith)
    go (minus k p) = ap neg_ℤ (at-neg a b k p) ∙ pos-dif (suc k) ∙ dif-eq (suc k) 0 b a (omega arith)

pub neg-pos : (k : ℕ) → neg_ℤ (pos k) ≡ dif 0 k
neg-pos k = ap neg_ℤ (pos-dif k) ∙ neg-dif k 0

pub sub-dif : (a b : ℕ) → sub_ℕ a b ≡ dif a b
unfolding dif
sub-dif a b = refl

pub add-dif : (a b c d : ℕ) → dif a b +ℤ dif c d ≡ dif (a + c) (b + d)
add-dif a b c d = go (form a b) (form c d)
  where
    go : Form a b → Form c d → dif a b +ℤ dif c d ≡ dif (a + c) (b + d)
    go (plus k p) (plus l q) = ap₂ ◌+ℤ◌ (at-pos a b k p) (at-pos c d l q) ∙ pos-dif (k + l) ∙ dif-eq (k + l) 0 (a + c) (b + d) (omega arith)
    go (plus k p) (minus l q) = ap₂ ◌+ℤ◌ (at-pos a b k p) (at-neg c d l q) ∙ sub-dif k (suc l) ∙ dif-eq k (suc l) (a + c) (b + d) (omega arith)
    go (minus k p) (plus l q) = ap₂ ◌+ℤ◌ (at-neg a b k p) (at-pos c d l q) ∙ sub-dif l (suc k) ∙ dif-eq l (suc k) (a + c) (b + d) (omega arith)
    go (minus k p) (minus l q) = ap₂ ◌+ℤ◌ (at-neg a b k p) (at-neg c d l q) ∙ negsuc-dif (suc (k + l)) ∙ dif-eq 0 (suc (suc (k + l))) (a + c) (b + d) (omega arith)

pub mul-dif : (a b c d : ℕ) → dif a b *ℤ dif c d ≡ dif (a * c + b * d) (a * d + b * c)
mul-dif a b c d = go (form a b) (form c d)
  where
    pp : (k l : ℕ) → a ≡ b + k → c ≡ d + l → k * l + (a * d + b * c) ≡ (a * c + b * d) + 0
    pp k l p q = rw (p, q) (omega arith)

    pm : (k l : ℕ) → a ≡ b + k → d ≡ c + l → 0 + (a * d + b * c) ≡ (a * c + b * d) + k * l
    pm k l p q = rw (p, q) (omega arith)

    mp : (k l : ℕ) → b ≡ a + k → c ≡ d + l → 0 + (a * d + b * c) ≡ (a * c + b * d) + k * l
    mp k l p q = rw (p, q) (omega arith)

    mm : (k l : ℕ) → b ≡ a + k → d ≡ c + l → k * l + (a * d + b * c) ≡ (a * c + b * d) + 0
    mm k l p q = rw (p, q) (omega arith)

    go : Form a b → Form c d → dif a b *ℤ dif c d ≡ dif (a * c + b * d) (a * d + b * c)
    go (plus k p) (plus l q) = ap₂ ◌*ℤ◌ (at-pos a b k p) (at-pos c d l q) ∙ pos-dif (k * l) ∙ dif-eq (k * l) 0 (a * c + b * d) (a * d + b * c) (pp k l p q)
    go (plus k p) (minus l q) = ap₂ ◌*ℤ◌ (at-pos a b k p) (at-neg c d l q) ∙ neg-pos (k * suc l) ∙ dif-eq 0 (k * suc l) (a * c + b * d) (a * d + b * c) (pm k (suc l) p q)
    go (minus k p) (plus l q) = ap₂ ◌*ℤ◌ (at-neg a b k p) (at-pos c d l q) ∙ neg-pos (suc k * l) ∙ dif-eq 0 (suc k * l) (a * c + b * d) (a * d + b * c) (mp (suc k) l p q)
    go (minus k p) (minus l q) = ap₂ ◌*ℤ◌ (at-neg a b k p) (at-neg c d l q) ∙ pos-dif (suc k * suc l) ∙ dif-eq (suc k * suc l) 0 (a * c + b * d) (a * d + b * c) (mm (suc k) (suc l) p q)

-- ---- the orders
pub le-dif : (a b c d : ℕ) → (dif a b ≤ℤ dif c d) ↔ (a + d ≤ c + b)
le-dif a b c d = (go (form a b) (form c d), back (form a b) (form c d))
  where
    carry : (x y z w : ℤ) → x ≡ z → y ≡ w → x ≤ℤ y → T (le_z z w)
    carry x y z w p q h = (rw (p, q) at h).le

    bring : (x y z w : ℤ) → x ≡ z → y ≡ w → T (le_z z w) → x ≤ℤ y
    bring x y z w p q h = rw (p, q) (le_z_yes h)

    go : Form a b → Form c d → dif a b ≤ℤ dif c d → a + d ≤ c + b
    go (plus k p) (plus l q) h = let t : k ≤ l = leb→le k l (carry _ _ _ _ (at-pos a b k p) (at-pos c d l q) h) in omega arith
    go (plus k p) (minus l q) h = absurd (carry _ _ _ _ (at-pos a b k p) (at-neg c d l q) h)
    go (minus k p) (plus l q) h = omega arith
    go (minus k p) (minus l q) h = let t : l ≤ k = leb→le l k (carry _ _ _ _ (at-neg a b k p) (at-neg c d l q) h) in omega arith

    back : Form a b → Form c d → a + d ≤ c + b → dif a b ≤ℤ dif c d
    back (plus k p) (plus l q) h = bring _ _ _ _ (at-pos a b k p) (at-pos c d l q) (le→leb k l (omega arith))
    back (plus k p) (minus l q) h = absurd (omega arith)
    back (minus k p) (plus l q) h = bring _ _ _ _ (at-neg a b k p) (at-pos c d l q) tt
    back (minus k p) (minus l q) h = bring _ _ _ _ (at-neg a b k p) (at-neg c d l q) (le→leb l k (omega arith))

-- the strict order is what the other, the other way round, is not
pub lt-dif : (a b c d : ℕ) → (dif a b <ℤ dif c d) ↔ (a + d < c + b)
lt-dif a b c d = (λ h. go h (dec_le (c + b) (a + d)), λ h. back h (lt_z (dif a b) (dif c d)) refl)
  where
    go : dif a b <ℤ dif c d → Dec (c + b ≤ a + d) → a + d < c + b
    go h (yes k) = clash_ℤ h ((le-dif c d a b).1 k)
    go h (no k) = omega arith

    back : a + d < c + b → (t : Bool) → lt_z (dif a b) (dif c d) ≡ t → dif a b <ℤ dif c d
    back h true e = lt_z_yes (subst T (sym e) tt)
    back h false e = let k = (le-dif c d a b).0 (lt_z_no (subst (λ (x : Bool). T (not x)) (sym e) tt)) in absurd (omega arith)

-- ---- the range of a signed width: `SFits w64 z` is −2^63 ≤ z < 2^63
pub fits-dif : (w : Width) (a b : ℕ) → SFits w (dif a b) ↔ ((a < b + 2 ^ hbits w) × (b ≤ a + 2 ^ hbits w))
fits-dif w a b = (go (form a b), back (form a b))
  where
    go : Form a b → SFits w (dif a b) → (a < b + 2 ^ hbits w) × (b ≤ a + 2 ^ hbits w)
    go (plus k p) h = let t : k < 2 ^ hbits w = (rw (at-pos a b k p) at h).sfits in omega arith
    go (minus k p) h = let t : k < 2 ^ hbits w = (rw (at-neg a b k p) at h).sfits in omega arith

    back : Form a b → (a < b + 2 ^ hbits w) × (b ≤ a + 2 ^ hbits w) → SFits w (dif a b)
    back (plus k p) h = rw (at-pos a b k p) (record { sfits = omega arith })
    back (minus k p) h = rw (at-neg a b k p) (record { sfits = omega arith })

-- ---- a bound on the absolute value
pub abs-dif : (a b : ℕ) → nat_abs (dif a b) ≡ (a - b) + (b - a)
abs-dif a b = go (form a b)
  where
    go : Form a b → nat_abs (dif a b) ≡ (a - b) + (b - a)
    go (plus k p) = ap nat_abs (at-pos a b k p) ∙ omega arith
    go (minus k p) = ap nat_abs (at-neg a b k p) ∙ omega arith

pub abs-le-dif : (a b n : ℕ) → (nat_abs (dif a b) ≤ n) ↔ ((a ≤ b + n) × (b ≤ a + n))
abs-le-dif a b n = (λ h. omega (arith, abs-dif a b), λ h. omega (arith, abs-dif a b))

pub abs-lt-dif : (a b n : ℕ) → (nat_abs (dif a b) < n) ↔ ((a < b + n) × (b < a + n))
abs-lt-dif a b n = (λ h. omega (arith, abs-dif a b), λ h. omega (arith, abs-dif a b))

-- ---- the set
pub ruleset zs = (pos-dif, negsuc-dif, neg-dif, add-dif, mul-dif, eq-dif, le-dif, lt-dif, fits-dif, abs-le-dif, abs-lt-dif)
