-- Rows of many shots: they lie inside their lists, and the answer to one row more.
use mathlib.Core.Path.{◌≡◌, refl, ap, ◌∙◌}
use mathlib.Core.List.{List, ◌++◌}
use Prim.Native.Nat.{ℕ, zero, suc, ◌+◌, ◌-◌, ◌*◌, ◌≤◌}
use native.Mathlib.Numerals.{add-one}
use native.Mathlib.Omega.{arith}
use lib.IntN.{ℤ}
use lib.ListN.{length, take, drop, length-append, length-drop}
use lib.Seq.{take_at, drop-append-add, drop-drop, take_all}
use borrow.Rule.Slice.PartMut.{put_mid}
use Rattle.digits.proofs.Lists.{put-tail}
use Rattle.card.specs.Fields.{field_count}
use Rattle.fieldbook.specs.Shot.{numbers_of, query, shot}
use Rattle.fieldbook.specs.declared.Options.{Options}
use Rattle.capi.specs.Rows.{shot_words, word_count, row_count, answers_to}

-- ---- they lie inside their lists
pub within : (rows : List ℤ) (answers : List ℕ) → (field_count * row_count rows answers ≤ length rows) × (word_count * row_count rows answers ≤ length answers)
within rows answers = (omega arith, omega arith)

-- ---- the words of the first k rows
length-answers : (o : Options) (k : ℕ) (rows : List ℤ) → length (answers_to o k rows) ≡ word_count * k
unfolding answers_to
length-answers o zero rows = refl
length-answers o (suc k) rows = simp length-append (omega (arith, length-answers o k rows))

-- ---- the list of answers on its way: the words of the first i rows, and behind them what was there before
pub same_length : (o : Options) (rows : List ℤ) (before : List ℕ) (i : ℕ) (l : List ℕ) → word_count * i ≤ length before → l ≡ answers_to o i rows ++ drop (word_count * i) before
    → length l ≡ length before
same_length o rows before i l h e = rw e (simp (length-append, length-drop) (omega (arith, length-answers o i rows)))

-- of such a list l the part from row i on comes back as y, with the words of that row at its front
module _ (o : Options) (rows : List ℤ) (before : List ℕ) (i : ℕ) (l y : List ℕ) (inside : word_count * suc i ≤ length before)
    (so_far : l ≡ answers_to o i rows ++ drop (word_count * i) before) where
  abbrev words : List ℕ
  words = shot_words (shot (query (numbers_of (drop (field_count * i) rows)) o))

  front : take (word_count * i) l ≡ answers_to o i rows
  front = rw so_far (take_at (answers_to o i rows) (drop (word_count * i) before) (word_count * i) (length-answers o i rows))

  back : drop (word_count * i + word_count) l ≡ drop (word_count * suc i) before
  back =
      let n : word_count * i + word_count ≡ length (answers_to o i rows) + word_count = omega (arith, length-answers o i rows) in
      let m : word_count * i + word_count ≡ word_count * suc i = omega arith in
      rw so_far
      (ap (λ (k : ℕ). drop k (answers_to o i rows ++ drop (word_count * i) before)) n
      ∙ drop-append-add (answers_to o i rows) (drop (word_count * i) before) word_count ∙ drop-drop word_count (word_count * i) before ∙ ap (λ (k : ℕ). drop k before) m)

  pub one_more : y ≡ shot_words (shot (query (numbers_of (take (length rows - field_count * i) (drop (field_count * i) rows))) o)) ++ drop word_count (take (length l - word_count * i) (drop (word_count * i) l))
      → put_mid (word_count * i) (length l - word_count * i) l y ≡ answers_to o (i + 1) rows ++ drop (word_count * (i + 1)) before
  unfolding answers_to
  one_more e =
      let row = take_all (length rows - field_count * i) (drop (field_count * i) rows) (simp length-drop (omega arith)) in
      rw add-one
      (put-tail (word_count * i) l words y (omega (arith, same_length o rows before i l (omega arith) so_far)) (rw row at e)
      ∙ (λ j. front j ++ words ++ back j))
