-- The bytes that are kept of an unfinished line.
use Rattle.std.proofs.Common.{◌≡◌, sym, ap, ◌∙◌, ℕ, ◌+◌, min, List, ◌++◌, length, take, arith}
use Rattle.std.proofs.Math.Nat.{min_comm}
use Rattle.std.proofs.Math.Seq.{take-append-add}
use Rattle.std.proofs.lemmas.List.{take_min}
use Rattle.card.specs.declared.Card.{Card}
use Rattle.replies.specs.Answers.{reply, next}
use Rattle.replies.specs.declared.Protocol.{Protocol}
use Rattle.replies.proofs.LongLines.{first-bytes}
use Rattle.stream.specs.Feeding.{kept_length}

-- as many bytes more of a piece as there is room for
pub keep-more : (k l : List ℕ) (n m : ℕ) → n + length k ≡ kept_length → m ≡ min (length l) n → k ++ take m l ≡ take kept_length (k ++ l)
keep-more k l n m e f =
    let whole : kept_length ≡ length k + n = omega arith in
    sym
    (ap (λ (j : ℕ). take j (k ++ l)) whole ∙ take-append-add k l n
    ∙ ap (λ (t : List ℕ). k ++ t) (sym (take_min n l) ∙ ap (λ (j : ℕ). take j l) (min_comm n (length l) ∙ sym f)))

-- what is kept of a line answers as the whole line does
module _ (p : Protocol) (c : Card) (l : List ℕ) where
  pub reply-kept : reply p c (take kept_length l) ≡ reply p c l
  reply-kept = (first-bytes p c l).0

  pub next-kept : next p c (take kept_length l) ≡ next p c l
  next-kept = (first-bytes p c l).1
