-- Document 01, "The Sun", and document 02, request 7 (RULES.md, "The Sun"): the terms of Newcomb's series (source 001, section 2.1), as they are
-- printed, in the short edition and in the full one.
use Rattle.std.specs.Prelude.{List, [], ◌∷◌, ◌++◌, pos}
use Rattle.exact.specs.Decimal.{plus, minus, degrees, arc_seconds}
use Rattle.arguments.specs.PrintedArguments.{Ms, Mm, Mv, D, P1, P2, P3, P4, Mars, Jupiter, Saturn}
use Rattle.series.specs.Term.{Term}
use Rattle.series.specs.Notation.{term, sine, cosine, added, less, none}

-- the equation of the centre, in degrees: multiples of Ms, the first two with amplitudes that vary
abbrev pub centre : List Term
centre =
    term (degrees (plus 19_194_603 7)) (degrees (minus 47_889 7)) (degrees (minus 144 7)) (pos 0) (added 1 Ms) none none
    ∷ term (degrees (plus 200_939 7)) (degrees (minus 1_003 7)) (pos 0) (pos 0) (added 2 Ms) none none
    ∷ term (degrees (plus 2_928 7)) (pos 0) (pos 0) (pos 0) (added 3 Ms) none none
    ∷ term (degrees (plus 50 7)) (pos 0) (pos 0) (pos 0) (added 4 Ms) none none
    ∷ []

-- the long period terms, in seconds of arc
abbrev pub long_period : List Term
long_period =
    sine (plus 640 2) (added 1 P1) none none
    ∷ sine (plus 1_882 3) (added 1 P2) none none
    ∷ sine (plus 202 3) (added 1 P3) none none
    ∷ []

-- the Moon's terms
abbrev pub moon : List Term
moon =
    sine (plus 6_454 3) (added 1 D) none none
    ∷ sine (plus 13 3) (added 3 D) none none
    ∷ sine (plus 177 3) (added 1 D) (added 1 Mm) none
    ∷ sine (minus 424 3) (added 1 D) (less 1 Mm) none
    ∷ sine (plus 39 3) (added 3 D) (less 1 Mm) none
    ∷ sine (minus 64 3) (added 1 D) (added 1 Ms) none
    ∷ sine (plus 172 3) (added 1 D) (less 1 Ms) none
    ∷ sine (minus 13 3) (added 1 D) (less 1 Mm) (less 1 Ms)
    ∷ []

-- the twelve terms of Venus, cosines with a phase in degrees
abbrev pub venus : List Term
venus =
    cosine (plus 4_838 3) (plus 299_102 3) (added 1 Mv) (less 1 Ms) none
    ∷ cosine (plus 116 3) (plus 148_900 3) (added 2 Mv) (less 1 Ms) none
    ∷ cosine (plus 5_526 3) (plus 148_313 3) (added 2 Mv) (less 2 Ms) none
    ∷ cosine (plus 2_497 3) (plus 315_943 3) (added 2 Mv) (less 3 Ms) none
    ∷ cosine (plus 666 3) (plus 177_710 3) (added 3 Mv) (less 3 Ms) none
    ∷ cosine (plus 1_559 3) (plus 345_253 3) (added 3 Mv) (less 4 Ms) none
    ∷ cosine (plus 1_024 3) (plus 318_150 3) (added 3 Mv) (less 5 Ms) none
    ∷ cosine (plus 210 3) (plus 206_200 3) (added 4 Mv) (less 4 Ms) none
    ∷ cosine (plus 144 3) (plus 195_400 3) (added 4 Mv) (less 5 Ms) none
    ∷ cosine (plus 152 3) (plus 343_800 3) (added 4 Mv) (less 6 Ms) none
    ∷ cosine (plus 123 3) (plus 195_300 3) (added 5 Mv) (less 7 Ms) none
    ∷ cosine (plus 154 3) (plus 359_600 3) (added 5 Mv) (less 8 Ms) none
    ∷ []

abbrev pub periodic : List Term
periodic = long_period ++ (moon ++ venus)

-- all of them: the terms of 01's first sum, and of the short edition
abbrev pub short_terms : List Term
short_terms = centre ++ periodic

-- ---- the full edition
-- the long period terms: the second with an amplitude that falls, and a fourth
abbrev pub full_long_period : List Term
full_long_period =
    sine (plus 640 2) (added 1 P1) none none
    ∷ term (arc_seconds (plus 1_882 3)) (arc_seconds (minus 16 3)) (pos 0) (pos 0) (added 1 P2) none none
    ∷ sine (plus 202 3) (added 1 P3) none none
    ∷ sine (plus 266 3) (added 1 P4) none none
    ∷ []

-- the eleven terms of Mars. The sixth phase is 105.880° in 001, which stands first, and 105.18° in 000 and 002
abbrev pub mars : List Term
mars =
    cosine (plus 273 3) (plus 217_700 3) (less 1 Mars) (added 1 Ms) none
    ∷ cosine (plus 2_043 3) (plus 343_888 3) (less 2 Mars) (added 2 Ms) none
    ∷ cosine (plus 1_770 3) (plus 200_402 3) (less 2 Mars) (added 1 Ms) none
    ∷ cosine (plus 129 3) (plus 294_200 3) (less 3 Mars) (added 3 Ms) none
    ∷ cosine (plus 425 3) (plus 338_880 3) (less 3 Mars) (added 2 Ms) none
    ∷ cosine (plus 500 3) (plus 105_880 3) (less 4 Mars) (added 3 Ms) none
    ∷ cosine (plus 585 3) (plus 334_060 3) (less 4 Mars) (added 2 Ms) none
    ∷ cosine (plus 204 3) (plus 100_800 3) (less 5 Mars) (added 3 Ms) none
    ∷ cosine (plus 154 3) (plus 227_400 3) (less 6 Mars) (added 4 Ms) none
    ∷ cosine (plus 101 3) (plus 96_300 3) (less 6 Mars) (added 3 Ms) none
    ∷ cosine (plus 106 3) (plus 222_700 3) (less 7 Mars) (added 4 Ms) none
    ∷ []

-- the eight terms of Jupiter
abbrev pub jupiter : List Term
jupiter =
    cosine (plus 163 3) (plus 198_600 3) (less 1 Jupiter) (added 2 Ms) none
    ∷ cosine (plus 7_208 3) (plus 179_532 3) (less 1 Jupiter) (added 1 Ms) none
    ∷ cosine (plus 2_600 3) (plus 263_217 3) (less 1 Jupiter) none none
    ∷ cosine (plus 2_731 3) (plus 87_145 3) (less 2 Jupiter) (added 2 Ms) none
    ∷ cosine (plus 1_610 3) (plus 109_493 3) (less 2 Jupiter) (added 1 Ms) none
    ∷ cosine (plus 164 3) (plus 170_500 3) (less 3 Jupiter) (added 3 Ms) none
    ∷ cosine (plus 556 3) (plus 82_650 3) (less 3 Jupiter) (added 2 Ms) none
    ∷ cosine (plus 210 3) (plus 98_500 3) (less 3 Jupiter) (added 1 Ms) none
    ∷ []

-- the four terms of Saturn: in 001 the list ends behind the third with a plus sign, and 000 (Table 2) and 002 (Table 7) have the fourth
abbrev pub saturn : List Term
saturn =
    cosine (plus 419 3) (plus 100_580 3) (less 1 Saturn) (added 1 Ms) none
    ∷ cosine (plus 320 3) (plus 269_460 3) (less 1 Saturn) none none
    ∷ cosine (plus 108 3) (plus 290_600 3) (less 2 Saturn) (added 2 Ms) none
    ∷ cosine (plus 112 3) (plus 293_600 3) (less 2 Saturn) (added 1 Ms) none
    ∷ []

abbrev pub planets : List Term
planets = mars ++ (jupiter ++ saturn)

abbrev pub full_terms : List Term
full_terms = centre ++ (full_long_period ++ (moon ++ (venus ++ planets)))

-- what it has beyond the short edition: the part of 1.882″ − 0.016″T that varies, the fourth long period term and the three planets (law
-- `full-is-short-and-further`)
abbrev pub further : List Term
further =
    term (pos 0) (arc_seconds (minus 16 3)) (pos 0) (pos 0) (added 1 P2) none none
    ∷ sine (plus 266 3) (added 1 P4) none none
    ∷ planets
