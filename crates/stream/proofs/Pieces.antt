-- A chunk, one line at a time.
use mathlib.Core.Path.{◌≡◌, refl, sym, ap, ◌∙◌, subst}
use mathlib.Core.Bool.{Bool, true, false, cond}
use mathlib.Core.List.{List, [], ◌∷◌, ◌++◌, append_assoc, append-nil}
use Prim.Native.Nat.{ℕ, suc, ◌<◌, ◌≤◌}
use native.Mathlib.Omega.{arith}
use lib.Dec.{eqb}
use lib.ListN.{length, take, drop}
use Rattle.card.specs.declared.Card.{Card}
use Rattle.replies.specs.Answers.{reply, next}
use Rattle.replies.specs.declared.Protocol.{Protocol}
use Rattle.stream.specs.Feeding.{Progress, behind, progress, kept_length, held, progress_from, last_reply, Feeds}
use Rattle.stream.specs.declared.State.{State}
use Rattle.lines.specs.Appending.{Appends}
use Rattle.lines.specs.declared.output.Output.{Output}
use Rattle.lines.specs.Bytes.{index_after, index_of}

-- output before output
pub behind-both : (a b : List ℕ) (r : Progress) → behind (a ++ b) r ≡ behind a (behind b r)
behind-both a b r = ap (λ (o : List ℕ). record { output = o; card = r.card; line = r.line }) (append_assoc a b r.output)

module _ (p : Protocol) (c : Card) where
  -- the line that stands at a chunk's front, up to its newline
  ended : List ℕ → ℕ → List ℕ → Progress
  ended begun k l = behind (reply p c (begun ++ take k l)) (progress p (next p c (begun ++ take k l)) [] (drop (suc k) l))

  -- (q: whether the first byte is a newline)
  line-by : (q : Bool) (begun : List ℕ) (b k : ℕ) (l : List ℕ) → index_after q k < suc (length l)
      → (k < length l → progress p c (begun ++ (b ∷ [])) l ≡ ended (begun ++ (b ∷ [])) k l)
      → cond q (behind (reply p c begun) (progress p (next p c begun) [] l)) (progress p c (begun ++ (b ∷ [])) l)
      ≡ ended begun (index_after q k) (b ∷ l)
  unfolding ended
  line-by true begun b k l h f = rw append-nil
  line-by false begun b k l h f = f (omega arith) ∙ rw append_assoc

  pub line-ended : (begun l : List ℕ) → index_of 10 l < length l
      → progress p c begun l
      ≡ behind (reply p c (begun ++ take (index_of 10 l) l)) (progress p (next p c (begun ++ take (index_of 10 l) l)) [] (drop (suc (index_of 10 l)) l))
  unfolding ended progress index_of
  line-ended begun [] h = absurd (omega arith)
  line-ended begun (b ∷ l) h = line-by (eqb b 10) begun b (index_of 10 l) l h (line-ended (begun ++ (b ∷ [])) l)

  rest-by : (q : Bool) (begun : List ℕ) (b k : ℕ) (l : List ℕ) → suc (length l) ≤ index_after q k
      → (length l ≤ k → progress p c (begun ++ (b ∷ [])) l ≡ record { output = []; card = c; line = (begun ++ (b ∷ [])) ++ l })
      → cond q (behind (reply p c begun) (progress p (next p c begun) [] l)) (progress p c (begun ++ (b ∷ [])) l)
      ≡ record { output = []; card = c; line = begun ++ b ∷ l }
  rest-by true begun b k l h f = absurd (omega arith)
  rest-by false begun b k l h f =
      f (omega arith) ∙ ap (λ (g : List ℕ). record { output = []; card = c; line = g }) (append_assoc begun (b ∷ []) l)

  -- a piece without a newline
  pub rest-left : (begun l : List ℕ) → length l ≤ index_of 10 l → progress p c begun l ≡ record { output = []; card = c; line = begun ++ l }
  unfolding progress index_of
  rest-left begun [] h = ap (λ (g : List ℕ). record { output = []; card = c; line = g }) (sym (append-nil begun))
  rest-left begun (b ∷ l) h = rest-by (eqb b 10) begun b (index_of 10 l) l h (rest-left (begun ++ (b ∷ [])) l)

-- what the loop over a chunk has written, and what it has yet to read, make what the whole chunk makes
module _ (p : Protocol) (first s : State) (chunk l o : List ℕ) (e : behind o (progress_from p s l) ≡ progress_from p first chunk) where
  -- one line more
  pub one_line : (t : State) → index_of 10 l < length l → t.card ≡ next p s.card (held s.kept ++ take (index_of 10 l) l) → held t.kept ≡ []
      → behind (o ++ reply p s.card (held s.kept ++ take (index_of 10 l) l)) (progress_from p t (drop (suc (index_of 10 l)) l)) ≡ progress_from p first chunk
  one_line t h f g =
      rw (f, g)
      (behind-both o (reply p s.card (held s.kept ++ take (index_of 10 l) l)) _
      ∙ ap (behind o) (sym (line-ended p s.card (held s.kept) l h)) ∙ e)

  -- the rest is kept
  pub the_rest : (t : State) (x y : Output) → Appends x o y → length l ≤ index_of 10 l → t.card ≡ s.card → held t.kept ≡ take kept_length (held s.kept ++ l)
      → Feeds p first chunk t x y
  the_rest t x y a h f g =
      let r = sym (ap (behind o) (rest-left p s.card (held s.kept) l h)) ∙ e in
      record {
        wrote = subst (λ w. Appends x w y) (sym (append-nil o) ∙ ap (λ (q : Progress). q.output) r) a;
        keeps = record { card = f ∙ ap (λ (q : Progress). q.card) r; line = g ∙ ap (λ (q : Progress). take kept_length q.line) r };
      }

-- a last line without a newline
pub last_line : (p : Protocol) (c : Card) (l : List ℕ) → (length l ≡ 0 → ⊥) → reply p c l ≡ last_reply p c l
last_line p c [] h = absurd (h refl)
last_line p c (b ∷ l) h = refl
