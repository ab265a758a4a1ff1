-- How many numbers a question takes.
use mathlib.Core.Path.{◌≡◌}
use mathlib.Core.Bool.{true}
use Prim.Native.Nat.{ℕ, ◌+◌, ◌≤◌, ◌<◌}
use native.Mathlib.Omega.{arith}
use lib.Dec.{leb}
use borrow.Author.Tests.{leb-true}
use Rattle.exact.proofs.Machine.{and-true}
use Rattle.lines.specs.Numerals.{row_length}
use Rattle.replies.specs.Answers.{numbers_asked, options_asked, is_asked}
use Rattle.replies.specs.declared.Question.{Question}
use Rattle.replies.specs.declared.Question.TheVariants.{Shot, Pointing, Editions}

-- a question takes some numbers, and with its options no more than a row has
pub asked-some : (q : Question) → 0 < numbers_asked q
asked-some Shot = omega arith
asked-some Pointing = omega arith
asked-some Editions = omega arith

pub asked-few : (q : Question) → numbers_asked q + options_asked q ≤ row_length
asked-few Shot = omega arith
asked-few Pointing = omega arith
asked-few Editions = omega arith

-- what the test of a count says
pub asked-count : (q : Question) (n : ℕ) → is_asked q n ≡ true → (numbers_asked q ≤ n) × (n ≤ numbers_asked q + options_asked q)
asked-count q n e =
    let h = and-true (leb (numbers_asked q) n) (leb n (numbers_asked q + options_asked q)) e in
    (leb-true _ _ h.0, leb-true _ _ h.1)
