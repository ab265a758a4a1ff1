-- A row of whole numbers as it is stored, laid out for the product with N: c1 stands in two parts, how many times it holds C, and the rest.
use Rattle.std.specs.Prelude.{List, [], ◌∷◌, ℤ, pos, ◌+ℤ◌, ◌*ℤ◌}
use Rattle.exact.specs.Century.{century}
use Rattle.exact.specs.Nth.{nth}

-- the three coefficients that it stands for
abbrev pub coefficients : List ℤ → List ℤ
coefficients row = nth row 0 ∷ (pos century *ℤ nth row 1 +ℤ nth row 2) ∷ nth row 3 ∷ []
