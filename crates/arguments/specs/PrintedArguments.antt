-- Document 01, "Time", and document 02, request 7 (RULES.md, "Time", the rows of arguments): the table of arguments, in degrees as it is printed, and in
-- whole units.
use Rattle.std.specs.Prelude.{List, [], ◌∷◌, ◌++◌, map, ℕ, ℤ}
use Rattle.exact.specs.Decimal.{Decimal, plus, minus, degrees}
use Rattle.epoch.specs.Epoch.{Epoch}
use Rattle.arguments.specs.Argument.{arguments_by}

abbrev row : Decimal → Decimal → Decimal → List Decimal
row c0 c1 c2 = c0 ∷ c1 ∷ c2 ∷ []

-- the eight rows of 01's table, and the three of the long period terms (source 001, 2.1)
abbrev pub printed : List (List Decimal)
printed =
    row (plus 279_696_678 6) (plus 36_000_768_925 6) (plus 303 6)  -- L, the Sun's mean longitude (001, 1.3)
    ∷ row (plus 358_475_833 6) (plus 3_599_904_975 5) (minus 15 5)  -- Ms, the Sun's mean anomaly (001, 1.3)
    ∷ row (plus 296_104_608 6) (plus 477_198_849_108 6) (plus 9_192 6)  -- Mm, the Moon's mean anomaly (001, 1.3)
    ∷ row (plus 212_603_222 6) (plus 58_517_803_875 6) (plus 1_286 6)  -- Mv, the mean anomaly of Venus (001, 1.3)
    ∷ row (plus 350_737_486 6) (plus 445_267_114_217 6) (minus 1_436 6)  -- D, the Moon's mean elongation from the Sun (001, 1.3)
    ∷ row (plus 259_183_275 6) (minus 1_934_142_008 6) (plus 20_778 7)  -- Ω, the longitude of the Moon's ascending node (002)
    ∷ row (plus 270_434_164 6) (plus 4_812_678_831_417 7) (minus 11_333 7)  -- Lm, the Moon's mean longitude (002)
    ∷ row (plus 23_452_294 6) (minus 130_125 7) (minus 164 8)  -- ε₀, the mean obliquity of the ecliptic (004)
    ∷ row (plus 23_119 2) (plus 2_020 2) (plus 0 0)  -- P1, of the term of 6.40″
    ∷ row (plus 5_724 2) (plus 15_027 2) (plus 0 0)  -- P2, of the term of 1.882″
    ∷ row (plus 31_560 2) (plus 89_330 2) (plus 0 0)  -- P3, of the term of 0.202″
    ∷ []

-- and the four that the full edition of the Sun's series takes besides (request 7)
abbrev pub further_printed : List (List Decimal)
further_printed =
    row (plus 318 1) (plus 1_190 1) (plus 0 0)  -- P4, of the long period term of 0.266″ (002, eq. 49)
    ∷ row (plus 319_529_022 6) (plus 19_139_859_219 6) (plus 181 6)  -- the mean anomaly of Mars (001, 1.3)
    ∷ row (plus 22_532_833 5) (plus 303_496_202 5) (minus 722 6)  -- of Jupiter (001, 1.3)
    ∷ row (plus 17_546_622 5) (plus 122_155_147 5) (minus 502 6)  -- of Saturn (001, 1.3)
    ∷ []

-- in whole units
unfoldable pub rows : List (List ℤ)
rows = map (map degrees) printed

unfoldable pub further_rows : List (List ℤ)
further_rows = map (map degrees) further_printed

-- the arguments of an epoch, in that order
unfoldable pub arguments_of : Epoch → List ℤ
arguments_of e = arguments_by rows e

-- with those of the full edition behind them
unfoldable pub full_arguments_of : Epoch → List ℤ
full_arguments_of e = arguments_of e ++ arguments_by further_rows e

-- how many there are, and where each stands
abbrev pub argument_count : ℕ
argument_count = 11

abbrev pub full_count : ℕ
full_count = 15

abbrev pub L : ℕ
L = 0

abbrev pub Ms : ℕ
Ms = 1

abbrev pub Mm : ℕ
Mm = 2

abbrev pub Mv : ℕ
Mv = 3

abbrev pub D : ℕ
D = 4

abbrev pub Ω : ℕ
Ω = 5

abbrev pub Lm : ℕ
Lm = 6

abbrev pub ε₀ : ℕ
ε₀ = 7

abbrev pub P1 : ℕ
P1 = 8

abbrev pub P2 : ℕ
P2 = 9

abbrev pub P3 : ℕ
P3 = 10

abbrev pub P4 : ℕ
P4 = 11

abbrev pub Mars : ℕ
Mars = 12

abbrev pub Jupiter : ℕ
Jupiter = 13

abbrev pub Saturn : ℕ
Saturn = 14
