-- RULES.md, "The mark": of two lists of results, angles in units of 0.0001″, the one of smaller spread.
use Rattle.std.specs.Prelude.{◌≡◌, refl, Bool, true, cond, ◌&&◌, List, [], ◌∷◌, ℕ, ◌-◌, ◌<◌, leb, eqb, ℤ, pos, ◌-ℤ◌, length, Result, Ok, Err}
use Rattle.std.specs.Int.Signed.{lt_z}
use Rattle.std.specs.Borrow.{Bor}
use Rattle.refusal.specs.RefusalNumbers.{number_of}
use Rattle.refusal.specs.Tests.{Test, test, decided}
use Rattle.exact.specs.Range.{between}
use Rattle.exact.specs.Reduction.{turn, is_reduced}
use Rattle.refusal.specs.declared.Refusal.{Refusal}
use Rattle.spread.specs.declared.Side.{Side}
use Rattle.spread.specs.declared.Side.TheVariants.{First, Second}

-- ---- the spread
abbrev pub larger : ℤ → ℤ → ℤ
larger a b = cond (lt_z a b) b a

abbrev pub smaller : ℤ → ℤ → ℤ
smaller a b = cond (lt_z b a) b a

-- a choice of one of two numbers, made along a list from z on
unfoldable pub along : (ℤ → ℤ → ℤ) → ℤ → List ℤ → ℤ
along f z [] = z
along f z (y ∷ ys) = along f (f z y) ys

-- of a whole list; 0 of the empty one, which is refused
unfoldable pub overall : (ℤ → ℤ → ℤ) → List ℤ → ℤ
overall f [] = pos 0
overall f (z ∷ zs) = along f z zs

abbrev pub largest : List ℤ → ℤ
largest l = overall larger l

abbrev pub smallest : List ℤ → ℤ
smallest l = overall smaller l

-- the largest result less the smallest, as plain numbers: 1 and turn − 1 lie far apart
unfoldable pub spread : List ℤ → ℤ
spread l = largest l -ℤ smallest l

-- ---- what is asked of the lists
-- not empty, and not longer than 64
abbrev pub is_list : List ℤ → Bool
is_list l = leb 1 (length l) && leb (length l) 64

-- each result is 0 to turn − 1
unfoldable pub are_angles : List ℤ → Bool
are_angles [] = true
are_angles (z ∷ zs) = is_reduced z && are_angles zs

-- 16 for either list, then 15 for a result of either
abbrev pub choice_tests : List ℤ → List ℤ → List Test
choice_tests a b = test (is_list a && is_list b) 16 ∷ test (are_angles a && are_angles b) 15 ∷ []

-- ---- the choice
-- the refusal's number, 0 where there is none; which list is handed back, 1 or 2; and how many of its results. With a refusal it is none of the first list.
pub record ChoiceValues : Type 0 where
  pub refusal : ℕ
  pub list : ℕ
  pub count : ℕ

abbrev pub whole : ℕ → List ℤ → ChoiceValues
whole n l = record { refusal = 0; list = n; count = length l }

abbrev pub refused : ℕ → ChoiceValues
refused k = record { refusal = k; list = 1; count = 0 }

-- the second where its spread is smaller, the first on a tie
unfoldable pub choice : List ℤ → List ℤ → ChoiceValues
choice a b = decided (choice_tests a b) (cond (lt_z (spread b) (spread a)) (whole 2 b) (whole 1 a)) refused

-- the number and the values of each case of the code's answer
abbrev pub choice_values : List ℤ → List ℤ → Result Side Refusal → ChoiceValues
choice_values a b (Ok First) = whole 1 a
choice_values a b (Ok Second) = whole 2 b
choice_values a b (Err r) = refused (number_of r)

-- ---- the list that is handed back
-- where nothing is refused, the slice that was lent, its place and its numbers; else the empty front of the first, at the first's place
pub record HandsBack (v : ChoiceValues) (a b r : Bor (List ℤ)) : Type 0 where
  pub own : v.refusal ≡ 0 → r ≡ cond (eqb v.list 2) b a
  pub front : 0 < v.refusal → (r.ref_ptr ≡ a.ref_ptr) × (r.now ≡ [])

-- ---- worked out
-- on the circle 1 and turn − 1 are two units from each other, as plain numbers turn − 2
far_apart : spread (pos 1 ∷ pos (turn - 1) ∷ []) ≡ pos (turn - 2)
unfolding spread overall along
far_apart = refl

-- so the second is narrower
second-narrower : choice (pos 1 ∷ pos (turn - 1) ∷ []) (pos 3 ∷ pos 6 ∷ []) ≡ record { refusal = 0; list = 2; count = 2 }
unfolding choice spread overall along are_angles between
second-narrower = refl

-- 7, 9, 8 lie within 2 and 1, 100 within 99
first-narrower : choice (pos 7 ∷ pos 9 ∷ pos 8 ∷ []) (pos 1 ∷ pos 100 ∷ []) ≡ record { refusal = 0; list = 1; count = 3 }
unfolding choice spread overall along are_angles between
first-narrower = refl

-- 2 each
tie : choice (pos 7 ∷ pos 9 ∷ pos 8 ∷ []) (pos 3 ∷ pos 1 ∷ []) ≡ record { refusal = 0; list = 1; count = 3 }
unfolding choice spread overall along are_angles between
tie = refl

-- an empty list is refused before a result that is no angle
empty : choice (pos turn ∷ []) [] ≡ record { refusal = 16; list = 1; count = 0 }
unfolding choice
empty = refl

no-angle : choice (pos 7 ∷ []) (pos turn ∷ []) ≡ record { refusal = 15; list = 1; count = 0 }
unfolding choice are_angles between
no-angle = refl
