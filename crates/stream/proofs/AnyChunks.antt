-- An input that comes in chunks of any lengths has the output of its run, whatever the chunks are.
use mathlib.Core.Path.{◌≡◌, refl, sym, ap, ◌∙◌}
use mathlib.Core.Bool.{Bool, true, false, cond}
use mathlib.Core.List.{List, [], ◌∷◌, ◌++◌, append_assoc, append-nil}
use Prim.Native.Nat.{ℕ, zero, suc}
use native.Mathlib.Omega.{arith}
use lib.Dec.{eqb}
use lib.ListN.{length, take}
use lib.Seq.{take-take}
use Rattle.card.specs.Fields.{fresh_card}
use Rattle.card.specs.declared.Card.{Card}
use Rattle.replies.specs.Answers.{reply, next}
use Rattle.replies.specs.declared.Protocol.{Protocol}
use Rattle.stream.specs.Run.{last_line, lines_behind, replies, run}
use Rattle.stream.specs.Feeding.{Progress, behind, progress, last_reply, kept_length, progress_all, feed_all, joined}
use Rattle.stream.proofs.Keeping.{reply-kept, next-kept}

-- what is kept after one byte more
take_more : (n : ℕ) (l : List ℕ) (b : ℕ) → take n (take n l ++ (b ∷ [])) ≡ take n (l ++ (b ∷ []))
take_more zero l b = refl
take_more (suc n) [] b = refl
take_more (suc n) (x ∷ l) b = ap (λ (r : List ℕ). x ∷ r) (take_more n l b)

-- two unfinished lines of which the same is kept
Alike : List ℕ → List ℕ → Type 0
Alike g h = take kept_length g ≡ take kept_length h

alike-more : (g h : List ℕ) (b : ℕ) → Alike g h → Alike (g ++ (b ∷ [])) (h ++ (b ∷ []))
unfolding Alike
alike-more g h b e =
    sym (take_more kept_length g b) ∙ ap (λ (l : List ℕ). take kept_length (l ++ (b ∷ []))) e ∙ take_more kept_length h b

module _ (p : Protocol) where
  alike-reply : (c : Card) (g h : List ℕ) → Alike g h → reply p c g ≡ reply p c h
  unfolding Alike
  alike-reply c g h e = sym (reply-kept p c g) ∙ ap (reply p c) e ∙ reply-kept p c h

  alike_next : (c : Card) (g h : List ℕ) → Alike g h → next p c g ≡ next p c h
  unfolding Alike
  alike_next c g h e = sym (next-kept p c g) ∙ ap (next p c) e ∙ next-kept p c h

  -- bring about alike
  record Same (r s : Progress) : Type 0 where
    pub output : r.output ≡ s.output
    pub card : r.card ≡ s.card
    pub line : Alike r.line s.line

  same_by : (q : Bool) (g h t u : List ℕ) (v w x y : Progress) → t ≡ u → v ≡ w → Same x y → Same (cond q (behind t v) x) (cond q (behind u w) y)
  unfolding Alike
  same_by true g h t u v w x y e f s = rw (e, f) (record { output = refl; card = refl; line = refl })
  same_by false g h t u v w x y e f s = s

  alike-progress : (c : Card) (g h l : List ℕ) → Alike g h → Same (progress p c g l) (progress p c h l)
  unfolding progress
  alike-progress c g h [] e = record { output = refl; card = refl; line = e }
  alike-progress c g h (b ∷ l) e =
      same_by (eqb b 10) g h _ _ _ _ _ _ (alike-reply c g h e) (ap (λ (d : Card). progress p d [] l) (alike_next c g h e))
      (alike-progress c (g ++ (b ∷ [])) (h ++ (b ∷ [])) l (alike-more g h b e))

  -- the lines that end in a chunk, and those behind them
  part_by : (q : Bool) (c : Card) (g more : List ℕ) (ls ms : List (List ℕ)) (r s : Progress)
      → replies p (next p c g) ls ≡ r.output ++ replies p r.card (lines_behind r.line more)
      → replies p c ms ≡ s.output ++ replies p s.card (lines_behind s.line more)
      → replies p c (cond q (g ∷ ls) ms)
      ≡ (cond q (behind (reply p c g) r) s).output ++ replies p (cond q (behind (reply p c g) r) s).card (lines_behind (cond q (behind (reply p c g) r) s).line more)
  unfolding replies
  part_by true c g more ls ms r s e f = ap (λ (o : List ℕ). reply p c g ++ o) e ∙ sym (append_assoc (reply p c g) r.output _)
  part_by false c g more ls ms r s e f = f

  part : (c : Card) (g l more : List ℕ)
      → replies p c (lines_behind g (l ++ more)) ≡ (progress p c g l).output ++ replies p (progress p c g l).card (lines_behind (progress p c g l).line more)
  unfolding progress lines_behind
  part c g [] more = refl
  part c g (b ∷ l) more =
      part_by (eqb b 10) c g more _ _ _ _ (part (next p c g) [] l more) (part c (g ++ (b ∷ [])) l more)

  last : (c : Card) (g h : List ℕ) → Alike g h → last_reply p c g ≡ replies p c (last_line h)
  unfolding Alike replies
  last c [] [] e = refl
  last c [] (b ∷ h) e = absurd (let n = ap length e in omega arith)
  last c (a ∷ g) [] e = absurd (let n = ap length e in omega arith)
  last c (a ∷ g) (b ∷ h) e = alike-reply c (a ∷ g) (b ∷ h) e ∙ sym (append-nil (reply p c (b ∷ h)))

  chunks-from : (c : Card) (g h : List ℕ) (chunks : List (List ℕ)) → Alike g h
      → (progress_all p c g chunks).output ++ last_reply p (progress_all p c g chunks).card (progress_all p c g chunks).line
      ≡ replies p c (lines_behind h (joined chunks))
  unfolding progress_all joined lines_behind Alike
  chunks-from c g h [] e = last c g h e
  chunks-from c g h (l ∷ chunks) e =
      let s = alike-progress c g h l e in
      let i = chunks-from (progress p c g l).card (take kept_length (progress p c g l).line) (progress p c h l).line chunks (take-take kept_length kept_length (progress p c g l).line (omega arith) ∙ s.line) in
      append_assoc (progress p c g l).output _ _ ∙ rw (i, s.output, s.card) (sym (part c h l (joined chunks)))

  pub any-chunks : (chunks : List (List ℕ)) → feed_all p chunks ≡ run p (joined chunks)
  unfolding Alike
  any-chunks chunks = chunks-from fresh_card [] [] chunks refl
