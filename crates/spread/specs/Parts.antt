-- What the code's one pass over a list owes.
use Rattle.std.specs.Prelude.{cond, List, ℤ, Option, Some, None}
use Rattle.spread.specs.Spread.{are_angles, spread}

-- the spread of a list, where each of its results is an angle
abbrev pub spread_of : List ℤ → Option ℤ
spread_of l = cond (are_angles l) (Some (spread l)) None
