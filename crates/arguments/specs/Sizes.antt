-- How large a stored row may be, so that no step of an argument leaves 64 bits: all those of the papers are smaller. And what is known of a list of
-- arguments.
use Rattle.std.specs.Prelude.{◌≡◌, List, [], ℕ, ◌*◌, ◌≤◌, ◌<◌, ◌^◌, ℤ, pos, nat_abs, ◌≤ℤ◌, length, get_or}
use Rattle.exact.specs.Century.{century}
use Rattle.exact.specs.Nth.{nth}
use Rattle.exact.specs.Sizes.{AllReduced}
use Rattle.arguments.specs.PrintedArguments.{argument_count, full_count}

pub record RowSized (row : List ℤ) : Type 0 where
  pub c0 : nat_abs (nth row 0) ≤ 2 ^ 40
  pub whole : nat_abs (nth row 1) ≤ 12
  pub natural : pos 0 ≤ℤ nth row 2
  pub rest : nat_abs (nth row 2) < century
  pub c2 : nat_abs (nth row 3) ≤ 2 * 10 ^ 6

abbrev pub RowsSized : List (List ℤ) → Type 0
RowsSized rows = (i : ℕ) → i < length rows → RowSized (get_or rows i [])

-- as many angles as the table has rows, each reduced
pub record IsArguments (angles : List ℤ) : Type 0 where
  pub reduced : AllReduced angles
  pub all : length angles ≡ argument_count

-- and of a list with those of the full edition
pub record IsFullArguments (angles : List ℤ) : Type 0 where
  pub reduced : AllReduced angles
  pub all : length angles ≡ full_count
