-- How the lists of terms of document 01, "The Sun" (RULES.md, "The Sun"), are written down here: amplitudes in degrees or seconds of arc as they are
-- printed, phases in degrees, multiples of arguments.
use Rattle.std.specs.Prelude.{ℕ, ℤ, pos, neg_ℤ, ◌+ℤ◌}
use Rattle.exact.specs.Reduction.{Q}
use Rattle.exact.specs.Decimal.{Decimal, degrees, arc_seconds}
use Rattle.series.specs.Term.{Part, Term}

-- any term, in units
abbrev pub term : ℤ → ℤ → ℤ → ℤ → Part → Part → Part → Term
term c0 c1 c2 phase first second third =
    record { c0 = c0; c1 = c1; c2 = c2; phase = phase; first = first; second = second; third = third }

-- a multiple of an argument, added or taken away
abbrev pub added : ℕ → ℕ → Part
added times index = record { times = pos times; index = index }

abbrev pub less : ℕ → ℕ → Part
less times index = record { times = neg_ℤ (pos times); index = index }

-- no argument
abbrev pub none : Part
none = added 0 0

-- a sine with a steady amplitude in seconds of arc
abbrev pub sine : Decimal → Part → Part → Part → Term
sine amplitude first second third = term (arc_seconds amplitude) (pos 0) (pos 0) (pos 0) first second third

-- and a cosine with a phase in degrees: Cos(a) is Sin(a + Q)
abbrev pub cosine : Decimal → Decimal → Part → Part → Part → Term
cosine amplitude phase first second third = term (arc_seconds amplitude) (pos 0) (pos 0) (degrees phase +ℤ pos Q) first second third
