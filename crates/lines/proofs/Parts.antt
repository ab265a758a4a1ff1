-- The part of a list from a place on.
use Rattle.std.proofs.Common.{◌≡◌, ◌-◌, ℕ, List, length, take, drop, arith}
use lib.Seq.{take_all}
use lib.ListN.{length-drop}

-- what is lent from a on is all that lies there
pub tail-part : (a : ℕ) (l : List ℕ) → take (length l - a) (drop a l) ≡ drop a l
tail-part a l = take_all (length l - a) (drop a l) (simp length-drop (omega arith))
