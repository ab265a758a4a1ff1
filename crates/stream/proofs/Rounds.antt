-- The states that chunks lead to, one after the other.
use mathlib.Core.Path.{◌≡◌, ap, ◌∙◌}
use mathlib.Core.List.{List, [], ◌∷◌, ◌++◌}
use Prim.Native.Nat.{ℕ}
use lib.ListN.{take}
use Rattle.card.specs.Fields.{fresh_card}
use Rattle.card.specs.declared.Card.{Card}
use Rattle.replies.specs.declared.Protocol.{Protocol}
use Rattle.stream.specs.Feeding.{cut, kept_length, progress, progress_all, progress_from, from_start, held, last_reply, Keeps, FeedsAnew, Reached, Completes}
use Rattle.stream.specs.declared.State.{State}
use Rattle.stream.proofs.AnyChunks.{any-chunks}

module _ (p : Protocol) (s : State) where
  -- no chunk yet
  pub first_round : s.card ≡ fresh_card → held s.kept ≡ [] → Reached p s
  unfolding progress_all
  first_round e f = record { chunks = []; keeps = record { card = e; line = f } }

  -- a chunk behind others
  keeps-more : (c : Card) (g : List ℕ) (chunks : List (List ℕ)) (l : List ℕ) (t : State)
      → Keeps s (progress_all p c g chunks) → Keeps t (cut (progress_from p s l)) → Keeps t (progress_all p c g (chunks ++ (l ∷ [])))
  unfolding progress_all
  keeps-more c g [] l t k h = record { card = rw (k.card, k.line) at h.card; line = rw (k.card, k.line) at h.line }
  keeps-more c g (x ∷ chunks) l t k h =
      let i = keeps-more (progress p c g x).card (take kept_length (progress p c g x).line) chunks l t (record { card = k.card; line = k.line }) h in record { card = i.card; line = i.line }

  -- a round more
  pub one-round : (l : List ℕ) (t : State) (o : List ℕ) → Reached p s → FeedsAnew p s l t o → Reached p t
  one-round l t o r f = record { chunks = r.chunks ++ (l ∷ []); keeps = keeps-more fresh_card [] r.chunks l t r.keeps f.keeps }

  -- the answer to a last line
  pub last-round : (o : List ℕ) → Reached p s → o ≡ last_reply p s.card (held s.kept) → Completes p s o
  last-round o r e =
      let k = r.keeps in
      record { reached = r; whole = ap (λ (l : List ℕ). (from_start p r.chunks).output ++ l) (rw (k.card, k.line) at e) ∙ any-chunks p r.chunks }
