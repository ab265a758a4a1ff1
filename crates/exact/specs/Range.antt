-- Document 01, "The card" (RULES.md, "Fields"): a number between two others, both included; and two numbers that are one.
use Rattle.std.specs.Prelude.{Bool, false, ◌&&◌, eqb, ℤ, pos, negsuc}
use Rattle.std.specs.Int.Signed.{le_z}

unfoldable pub between : ℤ → ℤ → ℤ → Bool
between low z high = le_z low z && le_z z high

abbrev pub same : ℤ → ℤ → Bool
same (pos a) (pos b) = eqb a b
same (pos a) (negsuc b) = false
same (negsuc a) (pos b) = false
same (negsuc a) (negsuc b) = eqb a b
