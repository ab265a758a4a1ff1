-- A line longer than 259 bytes is malformed in every program, whatever it holds; so the first 260 bytes of a line are answered as the whole line is.
use mathlib.Core.Path.{◌≡◌, refl, sym, ap, ◌∙◌}
use mathlib.Core.Bool.{Bool, true, false, cond}
use mathlib.Core.Logic.{◌⊎◌, inl, inr, ⊎_elim}
use mathlib.Core.List.{List, [], ◌∷◌, ◌++◌}
use Prim.Native.Nat.{ℕ, suc, ◌+◌, ◌*◌, ◌<◌, ◌≤◌}
use native.Mathlib.Omega.{arith}
use native.Mathlib.Nat.{mul-add, mul-one}
use lib.Dec.{eqb, leb, ltb}
use lib.IntN.{ℤ}
use lib.ListN.{length, take, length-append}
use lib.Seq.{take_all, length-take-le}
use borrow.Author.Tests.{le-ltb, lt-ltb, ne_eqb, leb-true, leb-false}
use Rattle.card.specs.declared.Card.{Card}
use Rattle.lines.specs.Numerals.{digits_of, plus, minus, numeral_of, prefixed, words, row_length, if_number, numbers_behind, numbers_of}
use Rattle.std.proofs.Common.{Option, Some, None}
use Rattle.lines.proofs.Words.{first_word}
use Rattle.replies.specs.Commands.{letter_command, session_command, longest_line}
use Rattle.replies.specs.Answers.{refusal_text, command_text, command_card, numbers_asked, options_asked, is_asked, batch_reply, reply, next}
use Rattle.replies.specs.declared.Command.{Command}
use Rattle.replies.specs.declared.Command.TheVariants.{Malformed}
use Rattle.replies.specs.declared.Protocol.{Protocol}
use Rattle.replies.specs.declared.Protocol.TheVariants.{Session, Batch}
use Rattle.replies.specs.declared.Question.{Question}
use Rattle.replies.proofs.Grammar.{asked-some, asked-few, asked-count}

same : {A : Type 0} (b : Bool) {x y z : A} → x ≡ z → y ≡ z → cond b x y ≡ z
same true p q = p
same false p q = q

by-leb : {P : Type 0} (m n : ℕ) (b : Bool) → leb m n ≡ b → (m ≤ n → P) → (n < m → P) → P
by-leb m n true e p q = p (leb-true m n e)
by-leb m n false e p q = q (leb-false m n e)

by_order : {P : Type 0} (m n : ℕ) → (m ≤ n → P) → (n < m → P) → P
by_order m n p q = by-leb m n (leb m n) refl p q

-- a word of more than most + 1 bytes is no number
long-digits : (most : ℕ) (l : List ℕ) → most < length l → digits_of most l ≡ None
long-digits most l h = rw (le-ltb (length l) 1 (omega arith), lt-ltb most (length l) h)

long-word : (most : ℕ) (l : List ℕ) → suc most < length l → numeral_of most l ≡ None
long-word most [] h = refl
long-word most (c ∷ l) h = same (eqb c 45) (ap minus (long-digits most l (omega arith))) (ap plus (long-digits most (c ∷ l) (omega arith)))

-- the bytes of words, with one more for each
size : List (List ℕ) → ℕ
size [] = 0
size (w ∷ ws) = suc (length w) + size ws

-- (b: whether the first byte is a space)
size-by : (b : Bool) (c n : ℕ) (w : List ℕ) (ws : List (List ℕ)) → size (w ∷ ws) ≡ n → size (cond b ([] ∷ w ∷ ws) (prefixed c (w ∷ ws))) ≡ suc n
unfolding size
size-by true c n w ws e = omega arith
size-by false c n w ws e = omega arith

size-words : (l : List ℕ) → size (words l) ≡ suc (length l)
unfolding size words
size-words [] = omega arith
size-words (c ∷ l) =
    let f = first_word l in
    rw f (size-by (eqb c 32) c (suc (length l)) _ _ (rw f at (size-words l)))

-- each of the numbers that are behind the row took at most most + 2 bytes of the line
module _ (most : ℕ) where
  Fit : List (List ℕ) → List ℤ → List ℤ → Type 0
  Fit ws row all = (all ≡ []) ⊎ (size ws + (most + 2) * length row ≤ (most + 2) * length all)

  one_more : (row : List ℤ) (z : ℤ) → (most + 2) * length (row ++ (z ∷ [])) ≡ (most + 2) * length row + (most + 2)
  one_more row z = simp length-append (mul-add (most + 2) (length row) 1 ∙ ap (λ (m : ℕ). (most + 2) * length row + m) (mul-one (most + 2)))

  number-length : (w : List ℕ) (z : ℤ) → Some z ≡ numeral_of most w → length w ≤ suc most
  number-length w z e = by_order (length w) (suc most) (λ h. h) λ h.
      let n = long-word most w h in
      absurd (let o : ◌≡◌ {A = ℕ} 0 1 = cc in omega arith)

  fit-room : (b : Bool) (w : List ℕ) (ws : List (List ℕ)) (row all : List ℤ) (z : ℤ) → length w ≤ suc most → Fit ws (row ++ (z ∷ [])) all
      → Fit (w ∷ ws) row (cond b all [])
  unfolding Fit size
  fit-room true w ws row all z h f = ⊎_elim inl (λ k. let o = one_more row z in inr (omega arith)) f
  fit-room false w ws row all z h f = inl refl

  fit_word : (m : Option ℤ) (b : Bool) (w : List ℕ) (ws : List (List ℕ)) (row : List ℤ) → m ≡ numeral_of most w
      → ((z : ℤ) → Fit ws (row ++ (z ∷ [])) (numbers_behind (row ++ (z ∷ [])) most ws))
      → Fit (w ∷ ws) row (if_number m λ z. cond b (numbers_behind (row ++ (z ∷ [])) most ws) [])
  unfolding Fit
  fit_word None b w ws row e f = inl refl
  fit_word (Some z) b w ws row e f = fit-room b w ws row _ z (number-length w z e) (f z)

  fit : (ws : List (List ℕ)) (row : List ℤ) → Fit ws row (numbers_behind row most ws)
  unfolding Fit size numbers_behind
  fit [] row = inr (omega arith)
  fit (w ∷ ws) row = fit_word (numeral_of most w) (ltb (length row) row_length) w ws row refl λ z. fit ws (row ++ (z ∷ []))

  -- so a line that is too long for k numbers does not hold k
  not-so-many : (k : ℕ) (l : List ℕ) → 0 < k → (most + 2) * k ≤ length l → length (numbers_of most l) ≡ k → ⊥
  unfolding Fit
  not-so-many k l p h e =
      let s = size-words l in
      let m = ap (λ (n : ℕ). (most + 2) * n) e in
      ⊎_elim (λ n. let o = ap length n in omega arith) (λ f. omega arith) (fit (words l) [])

long-letter : (c : ℕ) (l : List ℕ) → 21 < length l → letter_command c (numbers_of 9 l) ≡ Malformed
long-letter c l h =
    let two = ne_eqb (length (numbers_of 9 l)) 2 (not-so-many 9 2 l (omega arith) (omega arith)) in
    let one = ne_eqb (length (numbers_of 9 l)) 1 (not-so-many 9 1 l (omega arith) (omega arith)) in
    same (eqb c 72) (rw two) (rw one)

long-session : (l : List ℕ) → 23 < length l → session_command l ≡ Malformed
long-session [] h = refl
long-session (c ∷ []) h = absurd (omega arith)
long-session (c ∷ s ∷ l) h = same (eqb s 32) (long-letter c l (omega arith)) refl

-- so no question may have as many numbers as a long line has
long-asked : (q : Question) (l : List ℕ) → longest_line < length l → is_asked q (length (numbers_of 18 l)) ≡ false
long-asked q l h = by (is_asked q (length (numbers_of 18 l))) refl
  where
    too_long : (n : ℕ) → length (numbers_of 18 l) ≡ n → numbers_asked q ≤ n → n ≤ numbers_asked q + options_asked q → ⊥
    too_long n e least most =
        let f = asked-few q in
        let g = asked-some q in
        not-so-many 18 n l (omega arith) (omega arith) e

    by : (b : Bool) → is_asked q (length (numbers_of 18 l)) ≡ b → is_asked q (length (numbers_of 18 l)) ≡ false
    by true e = let c = asked-count q (length (numbers_of 18 l)) e in absurd (too_long (length (numbers_of 18 l)) refl c.0 c.1)
    by false e = e

long-batch : (q : Question) (l : List ℕ) → longest_line < length l → batch_reply q l ≡ refusal_text 14 ++ (10 ∷ [])
unfolding batch_reply
long-batch q l h = rw (long-asked q l h)

-- what is the same for all long lines, the first 260 bytes tell
told-by-first : {A : Type 0} (f : List ℕ → A) (a : A) → ((l : List ℕ) → longest_line < length l → f l ≡ a)
    → (l : List ℕ) → f (take (suc longest_line) l) ≡ f l
told-by-first f a long l = by_order (length l) (suc longest_line) (λ h. ap f (take_all (suc longest_line) l h)) λ h.
    let e = length-take-le (suc longest_line) l (omega arith) in
    long (take (suc longest_line) l) (omega arith) ∙ sym (long l (omega arith))

first-asks : (l : List ℕ) → session_command (take (suc longest_line) l) ≡ session_command l
first-asks = told-by-first session_command Malformed λ l h. long-session l (omega arith)

pub first-bytes : (p : Protocol) (c : Card) (l : List ℕ)
    → (reply p c (take (suc longest_line) l) ≡ reply p c l) × (next p c (take (suc longest_line) l) ≡ next p c l)
unfolding reply next
first-bytes Session c l = (ap (λ (a : Command). command_text a c ++ (10 ∷ [])) (first-asks l), ap (λ (a : Command). command_card a c) (first-asks l))
first-bytes (Batch q) c l = (told-by-first (batch_reply q) (refusal_text 14 ++ (10 ∷ [])) (long-batch q) l, refl)
