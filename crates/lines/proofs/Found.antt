-- What a search for a byte answers: the index of the first such byte, or the length.
use Rattle.std.proofs.Common.{◌≡◌, refl, sym, ap, ◌∙◌, Bool, true, false, List, [], ◌∷◌, ℕ, zero, suc, ◌<◌, ◌≤◌, length, Option, Some, None, arith}
use lib.Dec.{eqb}
use Rattle.std.specs.Option.{unwrap_or}
use Rattle.memchr.specs.Find.{IsFirstByte, Nowhere, Passes, is_byte}
use Rattle.lines.specs.Bytes.{index_after, index_of}

later : (q : Bool) (k n : ℕ) → (q ≡ true → ⊥) → k ≡ n → index_after q k ≡ suc n
later true k n h e = absurd (h refl)
later false k n h e = ap suc e

module _ (b : ℕ) where
  pub found-none : (l : List ℕ) → Nowhere (Passes (is_byte b) l) 0 (length l) → index_of b l ≡ length l
  unfolding index_of
  found-none [] h = refl
  found-none (c ∷ l) h =
      later (eqb c b) (index_of b l) (length l) (h 0 (omega arith) (omega arith)) (found-none l (λ k i j. h (suc k) (omega arith) (omega arith)))

  pub found-some : (l : List ℕ) (k : ℕ) → k < length l → Passes (is_byte b) l k → Nowhere (Passes (is_byte b) l) 0 k → index_of b l ≡ k
  unfolding index_of
  found-some [] k h p n = absurd (omega arith)
  found-some (c ∷ l) zero h p n = ap (λ (q : Bool). index_after q (index_of b l)) p
  found-some (c ∷ l) (suc k) h p n =
      later (eqb c b) (index_of b l) k (n 0 (omega arith) (omega arith)) (found-some l k (omega arith) p (λ j i m. n (suc j) (omega arith) (omega arith)))

  pub found : (l : List ℕ) (r : Option ℕ) → IsFirstByte (is_byte b) l r → (k : ℕ) → k ≡ unwrap_or r (length l) → (k ≡ index_of b l) × (k ≤ length l)
  found l None h k e = (e ∙ sym (found-none l h), omega arith)
  found l (Some i) h k e = (e ∙ sym (found-some l i h.0.high h.1 h.0.before), omega (arith, h.0.high))
