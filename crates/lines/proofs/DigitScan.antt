-- The digits of a list of bytes, one byte at a time.
use mathlib.Core.Path.{◌≡◌}
use mathlib.Core.List.{List}
use mathlib.Core.Logic.{inl, inr}
use Prim.Native.Nat.{ℕ, ◌+◌, ◌-◌, ◌*◌, ◌^◌, ◌<◌, ◌≤◌}
use native.Mathlib.Omega.{arith}
use native.Mathlib.Nat.{pow-suc, pow-le-pow_right}
use native.Mathlib.Numerals.{add-one}
use lib.ListN.{length, drop, get_or, drop_of_length-le}
use lib.Seq.{drop-cons}
use borrow.Author.Tests.{lt-ltb, le-ltb}
use Rattle.lines.specs.Numerals.{digits_from, digits_of}
use Rattle.std.proofs.Common.{Some, None}
use Rattle.std.specs.Char.{IsNotAsciiDigit}

module _ (l : List ℕ) (i : ℕ) (h : i < length l) where
  pub no-digit : (n : ℕ) → IsNotAsciiDigit (get_or l i 0) → None ≡ digits_from n (drop i l)
  unfolding digits_from
  no-digit n (inl a) = rw (drop-cons l i 0 h, lt-ltb (get_or l i 0) 48 a)
  no-digit n (inr b) = let a : 48 ≤ get_or l i 0 = omega arith in rw (drop-cons l i 0 h, le-ltb (get_or l i 0) 48 a, lt-ltb 57 (get_or l i 0) b)

  pub digit : (n : ℕ) → 48 ≤ get_or l i 0 → get_or l i 0 ≤ 57 → digits_from (n * 10 + (get_or l i 0 - 48)) (drop (i + 1) l) ≡ digits_from n (drop i l)
  unfolding digits_from
  digit n a b = rw (add-one, drop-cons l i 0 h, le-ltb (get_or l i 0) 48 a, le-ltb 57 (get_or l i 0) b)

pub digits-end : (l : List ℕ) (i n : ℕ) → length l ≤ i → Some n ≡ digits_from n (drop i l)
unfolding digits_from
digits-end l i n h = rw (drop_of_length-le l {i = i} h)

-- n has i digits, so one digit more makes fewer than 10^(i + 1)
pub digit-more : (n d i : ℕ) → n < 10 ^ i → d ≤ 9 → n * 10 + d < 10 ^ (i + 1)
digit-more n d i a b = let p = pow-suc 10 i in rw add-one (omega arith)

pub at-most-eighteen : (n i : ℕ) → n < 10 ^ i → i ≤ 18 → n < 10 ^ 18
at-most-eighteen n i a b = let p : 10 ^ i ≤ 10 ^ 18 = pow-le-pow_right (omega arith) b in omega arith

-- the length's tests
module _ (most : ℕ) (l : List ℕ) where
  pub right-length : 1 ≤ length l → length l ≤ most → digits_from 0 l ≡ digits_of most l
  right-length a b = rw (le-ltb (length l) 1 a, le-ltb most (length l) b)
