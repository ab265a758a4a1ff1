-- Laws of `decided`: a list of tests in two parts, and a refusal that is handed on.
use mathlib.Core.Path.{◌≡◌, refl, sym, ap, ◌∙◌}
use mathlib.Core.Bool.{Bool, true, false, cond}
use mathlib.Core.List.{List, [], ◌∷◌, ◌++◌}
use Prim.Native.Nat.{ℕ, ◌<◌}
use native.Mathlib.Omega.{arith}
use Rattle.refusal.specs.RefusalNumbers.{number_of}
use Rattle.refusal.specs.Tests.{Test, decided}
use Rattle.refusal.specs.declared.Refusal.{Refusal}
use Rattle.refusal.specs.declared.Refusal.TheVariants.{NotConfirmed, NoDate, NoTime, NoDut1, NoPosition, NoBody, BelowHorizon, NearZenith, NoField, EmptyField, NoRoom, NotRead, TooLarge, Malformed, NoAngle, NoList, NoDeltaT, NothingToUndo, NoEdition}

-- ---- the tests and their numbers
-- each test has a number, so that 0 is left for no refusal
abbrev pub Numbered : List Test → Type 0
Numbered [] = Unit {0}
Numbered (t ∷ ts) = (0 < t.number) × Numbered ts

-- tests in two parts: the second decides where the first part passes
pub decided-append : {A : Type 0} (s t : List Test) (answer : A) (refused : ℕ → A)
    → decided (s ++ t) answer refused ≡ decided s (decided t answer refused) refused
decided-append [] t answer refused = refl
decided-append (x ∷ s) t answer refused = ap (λ a. cond x.passes a (refused x.number)) (decided-append s t answer refused)

-- each refusal of the tests
abbrev pub Each : (ℕ → Type 0) → List Test → Type 0
Each P [] = Unit {0}
Each P (t ∷ ts) = P t.number × Each P ts

-- what holds of each refusal, and of the answer where the tests pass, as another decision by them tells, holds of what is decided
pub holds-accepted : {A B : Type 0} (P : A → Type 0) (ts : List Test) (answer : A) (refused : ℕ → A) (b : B) (other : ℕ → B) → (decided ts b other ≡ b → P answer)
    → Each (λ k. P (refused k)) ts → P (decided ts answer refused)
holds-accepted P [] answer refused b other p q = p refl
holds-accepted {A = A} {B = B} P (t ∷ ts) answer refused b other p q =
    by t.passes (decided ts answer refused) (decided ts b other) p (λ h. holds-accepted P ts answer refused b other h q.1)
  where
    by : (pass : Bool) (x : A) (y : B) → (cond pass y (other t.number) ≡ b → P answer) → ((y ≡ b → P answer) → P x) → P (cond pass x (refused t.number))
    by true x y p f = f p
    by false x y p f = q.0

-- also where it holds of the answer in any case
pub holds-decided : {A : Type 0} (P : A → Type 0) (ts : List Test) (answer : A) (refused : ℕ → A) → P answer → Each (λ k. P (refused k)) ts
    → P (decided ts answer refused)
holds-decided P ts answer refused p q = holds-accepted P ts answer refused answer refused (λ e. p) q

-- every refusal has a number
pub number-above-zero : (r : Refusal) → 0 < number_of r
number-above-zero NotConfirmed = omega arith
number-above-zero NoDate = omega arith
number-above-zero NoTime = omega arith
number-above-zero NoDut1 = omega arith
number-above-zero NoPosition = omega arith
number-above-zero NoBody = omega arith
number-above-zero BelowHorizon = omega arith
number-above-zero NearZenith = omega arith
number-above-zero NoField = omega arith
number-above-zero EmptyField = omega arith
number-above-zero NoRoom = omega arith
number-above-zero NotRead = omega arith
number-above-zero TooLarge = omega arith
number-above-zero Malformed = omega arith
number-above-zero NoAngle = omega arith
number-above-zero NoList = omega arith
number-above-zero NoDeltaT = omega arith
number-above-zero NothingToUndo = omega arith
number-above-zero NoEdition = omega arith

-- a kind of answer that may be a refusal: the refusal's number of each answer, 0 where it is none, and what a refusal is
pub record Refusable (A : Type 0) : Type 0 where
  pub number : A → ℕ
  pub refused : ℕ → A
  pub gives : (k : ℕ) → number (refused k) ≡ k

-- ---- two decisions by the same tests
-- what came of the first, which may be a refusal, tells what comes of the second, of any kind
module _ {A B : Type 0} (K : Refusable A) (a : A) (none : K.number a ≡ 0) (b : B) (refused : ℕ → B) where
  refusal-by : (p : Bool) (n k : ℕ) (x : A) (y : B) → K.number (cond p x (K.refused n)) ≡ k → (K.number x ≡ k → refused k ≡ y) → refused k ≡ cond p y (refused n)
  refusal-by true n k x y e f = f e
  refusal-by false n k x y e f = ap refused (sym e ∙ K.gives n)

  refused-too : (ts : List Test) (k : ℕ) → 0 < k → K.number (decided ts a K.refused) ≡ k → refused k ≡ decided ts b refused
  refused-too [] k h e = absurd (omega arith)
  refused-too (t ∷ ts) k h e = refusal-by t.passes t.number k _ _ e (refused-too ts k h)

  -- a refusal is handed on
  pub handed-on : (ts : List Test) (r : Refusal) → number_of r ≡ K.number (decided ts a K.refused) → refused (number_of r) ≡ decided ts b refused
  handed-on ts r e = refused-too ts (number_of r) (number-above-zero r) (sym e)

  answer-by : (p : Bool) (n : ℕ) (x : A) (y : B) → 0 < n → 0 ≡ K.number (cond p x (K.refused n)) → (0 ≡ K.number x → b ≡ y) → b ≡ cond p y (refused n)
  answer-by true n x y h e f = f e
  answer-by false n x y h e f = let g = K.gives n in absurd (omega arith)

  -- where the first is no refusal, neither is the second
  pub passed_on : (ts : List Test) → Numbered ts → 0 ≡ K.number (decided ts a K.refused) → b ≡ decided ts b refused
  passed_on [] h e = refl
  passed_on (t ∷ ts) h e = answer-by t.passes t.number _ _ h.0 e (passed_on ts h.1)

-- and what is decided, where it is no refusal, is the answer
pub is-answer : {A : Type 0} (K : Refusable A) (a : A) → K.number a ≡ 0 → (ts : List Test) → Numbered ts → (x : A) → 0 ≡ K.number x → x ≡ decided ts a K.refused
    → x ≡ a
is-answer K a none ts all x z e = e ∙ sym (passed_on K a none a K.refused ts all (z ∙ ap K.number e))

-- ---- tests that stand first in a longer list
-- what they decided by themselves tells what the whole list decides
module _ {A B : Type 0} (K : Refusable A) (a : A) (none : K.number a ≡ 0) (ts us : List Test) (b : B) (refused : ℕ → B) where
  pub first-refuse : (r : Refusal) → number_of r ≡ K.number (decided ts a K.refused) → refused (number_of r) ≡ decided (ts ++ us) b refused
  first-refuse r e = handed-on K a none (decided us b refused) refused ts r e ∙ sym (decided-append ts us b refused)

  pub first-pass : Numbered ts → (x : A) → 0 ≡ K.number x → x ≡ decided ts a K.refused → (x ≡ a) × (decided us b refused ≡ decided (ts ++ us) b refused)
  first-pass all x z e = (
    is-answer K a none ts all x z e,
    passed_on K a none (decided us b refused) refused ts all (z ∙ ap K.number e) ∙ sym (decided-append ts us b refused),
  )
