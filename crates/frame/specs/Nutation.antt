-- Document 01, "The Sun" (RULES.md, "The Sun"): nutation by the Explanatory Supplement of 1961 (source 000, Table 3), printed in seconds of arc, and
-- the obliquity of the ecliptic. The minus of −(17.2327 + 0.01737T) goes to both coefficients; each is then rounded, and floored, with its sign.
use Rattle.std.specs.Prelude.{List, [], ◌∷◌, ℤ, pos, ◌+ℤ◌, get_or}
use Rattle.exact.specs.Decimal.{plus, minus, arc_seconds}
use Rattle.arguments.specs.PrintedArguments.{L, Ms, Ω, Lm, ε₀}
use Rattle.series.specs.Term.{Term}
use Rattle.series.specs.Sum.{table_sum}
use Rattle.series.specs.Notation.{term, sine, cosine, added, none}

-- the terms of Δψ, sines
abbrev pub dpsi_terms : List Term
dpsi_terms =
    term (arc_seconds (minus 172_327 4)) (arc_seconds (minus 1_737 5)) (pos 0) (pos 0) (added 1 Ω) none none
    ∷ sine (plus 2_088 4) (added 2 Ω) none none
    ∷ sine (minus 12_729 4) (added 2 L) none none
    ∷ sine (minus 2_037 4) (added 2 Lm) none none
    ∷ sine (plus 1_261 4) (added 1 Ms) none none
    ∷ []

-- the terms of Δε, cosines
abbrev pub deps_terms : List Term
deps_terms =
    cosine (plus 92_100 4) (plus 0 0) (added 1 Ω) none none
    ∷ cosine (plus 5_522 4) (plus 0 0) (added 2 L) none none
    ∷ cosine (minus 904 4) (plus 0 0) (added 2 Ω) none none
    ∷ cosine (plus 884 4) (plus 0 0) (added 2 Lm) none none
    ∷ []

-- Δψ, the nutation in longitude, in units, of the arguments of an epoch and its q
unfoldable pub dpsi : List ℤ → ℤ → ℤ
dpsi arguments q = table_sum arguments q dpsi_terms

-- Δε, the nutation in obliquity
unfoldable pub deps : List ℤ → ℤ → ℤ
deps arguments q = table_sum arguments q deps_terms

-- ε₀, the mean obliquity, which is one of the arguments
unfoldable pub epsilon0 : List ℤ → ℤ
epsilon0 arguments = get_or arguments ε₀ (pos 0)

-- ε, the true obliquity
unfoldable pub epsilon : List ℤ → ℤ → ℤ
epsilon arguments q = epsilon0 arguments +ℤ deps arguments q
