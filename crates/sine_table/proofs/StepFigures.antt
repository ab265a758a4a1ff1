-- The three figures of the law of a step: at an entry, by how much the squares of a sine and a cosine with both added are above R² at most (2.7036·R), and the
-- squares alone below it (1.3075·R); and how large the squared chord of a step is at most (84.6166·R).
use Prim.Native.Nat.{ℕ}

abbrev pub squares_above : ℕ
squares_above = 2_704_000_000

abbrev pub squares_below : ℕ
squares_below = 1_308_000_000

abbrev pub squared_chord : ℕ
squared_chord = 84_617_000_000
