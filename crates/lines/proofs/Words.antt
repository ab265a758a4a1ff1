-- The words of a line and the numbers that they are, one word at a time.
use mathlib.Core.Path.{◌≡◌, refl, sym, ap, ◌∙◌}
use mathlib.Core.Bool.{Bool, true, false, cond}
use mathlib.Core.List.{List, [], ◌∷◌, ◌++◌}
use Prim.Native.Nat.{ℕ, suc, ◌+◌, ◌<◌, ◌≤◌}
use native.Mathlib.Omega.{arith}
use native.Mathlib.Numerals.{add-one}
use lib.Dec.{eqb}
use lib.IntN.{ℤ}
use lib.ListN.{length, take, drop}
use lib.Seq.{drop-drop}
use borrow.Author.Tests.{lt-ltb, le-ltb}
use Rattle.lines.specs.Numerals.{numeral_of, prefixed, words, row_length, numbers_behind}
use Rattle.std.proofs.Common.{Some, None}
use Rattle.lines.specs.Bytes.{index_after, index_of}

-- the first word ends at the first space. (b: whether the first byte is a space)
first_by : (b : Bool) (c k : ℕ) (l : List ℕ) (ws : List (List ℕ)) → ws ≡ take k l ∷ drop 1 ws
    → cond b ([] ∷ ws) (prefixed c ws) ≡ take (index_after b k) (c ∷ l) ∷ drop 1 (cond b ([] ∷ ws) (prefixed c ws))
first_by true c k l ws e = refl
first_by false c k l [] e = absurd (let z = ap length e in omega arith)
first_by false c k l (w ∷ ws) e = ap (prefixed c) e

pub first_word : (l : List ℕ) → words l ≡ take (index_of 32 l) l ∷ drop 1 (words l)
unfolding words index_of
first_word [] = refl
first_word (c ∷ l) = first_by (eqb c 32) c (index_of 32 l) l (words l) (first_word l)

same_rest : (c : ℕ) (w : List ℕ) (ws r : List (List ℕ)) → r ≡ w ∷ ws → drop 1 (prefixed c r) ≡ drop 1 r
same_rest c w ws r e = rw e

-- the others are those behind that space
rest-by : (b : Bool) (c k : ℕ) (l : List ℕ) → index_after b k < suc (length l) → words l ≡ take k l ∷ drop 1 (words l)
    → (k < length l → drop 1 (words l) ≡ words (drop (suc k) l))
    → drop 1 (cond b ([] ∷ words l) (prefixed c (words l))) ≡ words (drop (suc (index_after b k)) (c ∷ l))
rest-by true c k l h e f = refl
rest-by false c k l h e f = same_rest c (take k l) (drop 1 (words l)) (words l) e ∙ f (omega arith)

pub more-words : (l : List ℕ) → index_of 32 l < length l → drop 1 (words l) ≡ words (drop (suc (index_of 32 l)) l)
unfolding words index_of
more-words [] h = absurd (omega arith)
more-words (c ∷ l) h = rest-by (eqb c 32) c (index_of 32 l) l h (first_word l) (more-words l)

last-by : (b : Bool) (c k : ℕ) (l : List ℕ) → suc (length l) ≤ index_after b k → words l ≡ take k l ∷ drop 1 (words l)
    → (length l ≤ k → drop 1 (words l) ≡ [])
    → drop 1 (cond b ([] ∷ words l) (prefixed c (words l))) ≡ []
last-by true c k l h e f = absurd (omega arith)
last-by false c k l h e f = same_rest c (take k l) (drop 1 (words l)) (words l) e ∙ f (omega arith)

pub no-more-words : (l : List ℕ) → length l ≤ index_of 32 l → drop 1 (words l) ≡ []
unfolding words index_of
no-more-words [] h = refl
no-more-words (c ∷ l) h = last-by (eqb c 32) c (index_of 32 l) l h (first_word l) (no-more-words l)

-- the numbers of a line behind those of a row, by its first word
module _ (row : List ℤ) (most : ℕ) (l : List ℕ) where
  pub no_number : None ≡ numeral_of most (take (index_of 32 l) l) → [] ≡ numbers_behind row most (words l)
  unfolding numbers_behind
  no_number e = rw (first_word l, ← e)

  module _ (z : ℤ) (e : Some z ≡ numeral_of most (take (index_of 32 l) l)) where
    pub no_room : row_length ≤ length row → [] ≡ numbers_behind row most (words l)
    unfolding numbers_behind
    no_room h = rw (first_word l, ← e, le-ltb (length row) row_length h)

    module _ (h : length row < row_length) where
      pub last-number : length l ≤ index_of 32 l → row ++ (z ∷ []) ≡ numbers_behind row most (words l)
      unfolding numbers_behind
      last-number k = rw (first_word l, ← e, lt-ltb (length row) row_length h, no-more-words l k)

      pub more_numbers : index_of 32 l < length l → numbers_behind (row ++ (z ∷ [])) most (words (drop (index_of 32 l + 1) l)) ≡ numbers_behind row most (words l)
      unfolding numbers_behind
      more_numbers k = rw (first_word l, ← e, lt-ltb (length row) row_length h, more-words l k, add-one)

-- what lies behind the first k bytes and one more
pub behind : (l next : List ℕ) (x k : ℕ) → drop k l ≡ x ∷ next → next ≡ drop (k + 1) l
behind l next x k e = sym (ap (drop 1) e) ∙ drop-drop 1 k l
