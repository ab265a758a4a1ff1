-- The quotient by the parts of the century.
use mathlib.Core.Path.{◌≡◌, sym, ap, ◌∙◌}
use Prim.Native.Nat.{ℕ, ◌+◌, ◌*◌, ◌/◌, ◌%◌, ◌≤◌}
use native.Mathlib.Nat.{div-add-mod, mod-lt, mul-le-mul, mul-add-div_right, div-div-eq-div-mul, le_of_lt}
use native.Mathlib.Omega.{arith}
use lib.Dec.{lit<}
use Rattle.exact.specs.Century.{century}
use Rattle.exact.proofs.rest_per_century.Goals.{Start}
use Rattle.exact.proofs.rest_per_century.Goals as goal

abbrev millionth : ℕ
millionth = 3_155_760

parts : (b n : ℕ) → (b * (n / millionth) + b * (n % millionth) / millionth) / 1_000_000 ≡ b * n / century
parts b n =
    let q = n / millionth in
    let r = n % millionth in
    let e = mul-add-div_right {m = millionth} (lit< tt) (b * q) (b * r) in
    ap (λ (k : ℕ). k / 1_000_000) (sym e ∙ ap (λ (k : ℕ). k / millionth) (back b q r n (div-add-mod n millionth)))
    ∙ div-div-eq-div-mul (b * n) millionth 1_000_000
  where
    back : (b q r n : ℕ) → millionth * q + r ≡ n → b * q * millionth + b * r ≡ b * n
    back b q r n e = rw (← e) (omega arith)

-- ---- the sizes
module _ (s : Start) where
  abbrev b : ℕ
  b = s.args.b

  abbrev n : ℕ
  n = s.args.n

  high_le : b * (n / millionth) ≤ century * 2_800_000
  high_le = mul-le-mul {n₂ = century} {m₂ = 2_800_000} (le_of_lt s.requires.0) (omega (arith, s.requires.1))

  low-le : b * (n % millionth) ≤ century * millionth
  low-le = mul-le-mul {n₂ = century} {m₂ = millionth} (le_of_lt s.requires.0) (le_of_lt (mod-lt n (lit< tt)))

  product_le : b * n ≤ century * n
  product_le = mul-le-mul {n₂ = century} {m₂ = n} (le_of_lt s.requires.0) (omega arith)

pub returns : goal.returns
returns c = let e = parts (b c) (n c) in (e, omega (arith, e, product_le c))
