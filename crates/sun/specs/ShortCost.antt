-- Document 02, request 8 (RULES.md, "What the short edition leaves out"): the sum of the amplitudes that the short edition drops, in units. Which they are
-- the two lists of terms say (law `left_out`); they are taken at the q of the epoch.
use Rattle.std.specs.Prelude.{ℕ, ℤ}
use Rattle.series.specs.Compared.{dropped}
use Rattle.sun.specs.Series.{short_terms, full_terms}

unfoldable pub short_cost : ℤ → ℕ
short_cost q = dropped short_terms full_terms q
