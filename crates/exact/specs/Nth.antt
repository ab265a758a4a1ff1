-- The i-th number of a row or a direction, 0 beyond its end.
use Rattle.std.specs.Prelude.{List, ℕ, ℤ, pos, get_or}

abbrev pub nth : List ℤ → ℕ → ℤ
nth numbers i = get_or numbers i (pos 0)
