-- Facts on lists that the writers' proofs use.
use mathlib.Core.Path.{◌≡◌, refl, sym, ap, ◌∙◌}
use mathlib.Core.List.{List, [], ◌∷◌, ◌++◌, append_assoc, append-nil}
use Prim.Native.Nat.{ℕ, ◌+◌, ◌-◌, ◌≤◌}
use native.Mathlib.Omega.{arith}
use native.Mathlib.Numerals.{add-one}
use lib.ListN.{length, take, drop, set, length-append, length-drop, drop_of_length-le}
use lib.Seq.{sets-eq, take_at, drop-append-add, drop-drop, take_all}
use borrow.Rule.Slice.PartMut.{put_mid}

-- two bytes put behind d, which stands at the front of l
pub put_two : (d l : List ℕ) (a b : ℕ) → length d + 2 ≤ length l
    → set (set (d ++ drop (length d) l) (length d) a) (length d + 1) b ≡ d ++ (a ∷ b ∷ []) ++ drop (length d + 2) l
put_two d l a b h =
    let x : List ℕ = d ++ drop (length d) l in
    rw add-one
    (sets-eq (a ∷ b ∷ []) x (length d) (simp (length-append, length-drop) (omega arith))
    ∙ ap (λ (p : List ℕ). p ++ (a ∷ b ∷ []) ++ drop (length d + 2) x) (take_at d (drop (length d) l) (length d) refl)
    ∙ ap (λ (p : List ℕ). d ++ (a ∷ b ∷ []) ++ p) (drop-append-add d (drop (length d) l) 2 ∙ drop-drop 2 (length d) l))

pub put_one : (l : List ℕ) (a : ℕ) → 1 ≤ length l → set l 0 a ≡ (a ∷ []) ++ drop 1 l
put_one [] a h = absurd (omega arith)
put_one (x ∷ l) a h = refl

-- the part from a on is all that lies there
pub tail-part : (a : ℕ) (l : List ℕ) → take (length l - a) (drop a l) ≡ drop a l
tail-part a l = take_all (length l - a) (drop a l) (simp length-drop (omega arith))

-- the part from a on comes back with d at its front
pub put-tail : (a : ℕ) (l d y : List ℕ) → a ≤ length l → y ≡ d ++ drop (length d) (take (length l - a) (drop a l))
    → put_mid a (length l - a) l y ≡ take a l ++ d ++ drop (a + length d) l
put-tail a l d y h e =
    let n : List ℕ = [] in
    let z : drop (length l - a) (drop a l) ≡ n = drop_of_length-le (drop a l) {i = length l - a} (simp length-drop (omega arith)) in
    rw (z, append-nil, e, tail-part, drop-drop) (sym (append_assoc (take a l) d (drop (a + length d) l)))
