-- The laws of what is appended to a buffer, and of a number in plain decimal.
use mathlib.Core.Path.{◌≡◌, ap, ◌∙◌}
use mathlib.Core.List.{List, [], ◌∷◌, ◌++◌, append_assoc, map, map-append}
use Prim.Native.Nat.{ℕ, suc, ◌+◌, ◌-◌, ◌/◌, ◌%◌, ◌^◌, ◌<◌, ◌≤◌}
use native.Mathlib.Omega.{arith}
use native.Mathlib.Nat.{mod-eq_of_lt}
use lib.ListN.{length, take, drop, set, length-append, length-map}
use lib.Seq.{set_split, drop_at, length-take-le}
use Rattle.digits.specs.Text.{decimal}
use Rattle.digits.proofs.Decimal.{decimal-one, decimal-more, decimal-some, length-decimal}
use Rattle.lines.specs.Appending.{decimal_text, written, Appends}
use Rattle.lines.specs.declared.output.Output.{Output}

-- one text behind the other
pub append-both : {x y z : Output} {t u : List ℕ} → Appends x t y → Appends y u z → Appends x (t ++ u) z
append-both {x} {y} {z} {t} {u} a b = record {
  ends = let e = a.ends in let f = b.ends in simp length-append (omega arith);
  holds = b.holds ∙ ap (λ (p : List ℕ). p ++ u) a.holds ∙ append_assoc (written x) t u;
  room = b.room ∙ a.room;
  same_buffer = b.same_buffer ∙ a.same_buffer;
}

pub decimal-text-one : (n : ℕ) → n < 10 → decimal_text n ≡ (48 + n) ∷ []
unfolding decimal_text
decimal-text-one n h = ap (map (λ d. 48 + d)) (decimal-one n h)

pub decimal-text-more : (n : ℕ) → 10 ≤ n → decimal_text n ≡ decimal_text (n / 10) ++ ((48 + n % 10) ∷ [])
unfolding decimal_text
decimal-text-more n h = ap (map (λ d. 48 + d)) (decimal-more n h) ∙ map-append (λ d. 48 + d) (decimal (n / 10)) (n % 10 ∷ [])

length-text : (n : ℕ) → length (decimal_text n) ≡ length (decimal n)
unfolding decimal_text
length-text n = length-map (decimal n) (λ d. 48 + d)

pub length_more : (n : ℕ) → 10 ≤ n → length (decimal_text n) ≡ length (decimal_text (n / 10)) + 1
length_more n h = ap length (decimal-text-more n h) ∙ length-append (decimal_text (n / 10)) ((48 + n % 10) ∷ [])

pub some-digit : (n : ℕ) → 1 ≤ length (decimal_text n)
some-digit n = let e = length-text n in let d = decimal-some n in omega arith

-- the last digit of m, stored before the digits that stand from k on
module _ (l : List ℕ) (k m d : ℕ) (e : d ≡ 48 + m % 10) (some : 1 ≤ k) (h : k ≤ length l) where
  stored : drop (k - 1) (set l (k - 1) d) ≡ (48 + m % 10) ∷ drop k l
  stored =
      let s : suc (k - 1) ≡ k = omega arith in
      ap (drop (k - 1)) (set_split l (k - 1) d (omega arith))
      ∙ drop_at (take (k - 1) l) (d ∷ drop (suc (k - 1)) l) (k - 1) (length-take-le (k - 1) l (omega arith))
      ∙ rw (s, e)

  pub digit-before : 10 ≤ m → decimal_text m ++ drop k l ≡ decimal_text (m / 10) ++ drop (k - 1) (set l (k - 1) d)
  digit-before n =
      rw (decimal-text-more m n, stored) (append_assoc (decimal_text (m / 10)) ((48 + m % 10) ∷ []) (drop k l))

  pub first-digit : m < 10 → decimal_text m ++ drop k l ≡ drop (k - 1) (set l (k - 1) d)
  first-digit n = rw (decimal-text-one m n, stored, mod-eq_of_lt n)

-- a number of 64 bits has at most 20 digits
pub at-most-twenty : (n : ℕ) → n < 2 ^ 64 → length (decimal_text n) ≤ 20
at-most-twenty n h = let e = length-text n in let l = length-decimal 19 n (omega arith) in omega arith
