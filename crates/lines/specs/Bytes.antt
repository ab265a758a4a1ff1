-- Where a byte first stands in a list of bytes.
use Rattle.std.specs.Prelude.{Bool, true, false, List, [], ◌∷◌, ℕ, suc, eqb}

-- the index of what is behind the first byte, where k counts the bytes behind it: 0 where the first byte itself is found
abbrev pub index_after : Bool → ℕ → ℕ
index_after true k = 0
index_after false k = suc k

-- the index of the first b, or the list's length where there is none
unfoldable pub index_of : ℕ → List ℕ → ℕ
index_of b [] = 0
index_of b (c ∷ l) = index_after (eqb c b) (index_of b l)
