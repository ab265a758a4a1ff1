-- The room that an answer needs in a buffer.
use Rattle.std.specs.Prelude.{ℕ}

-- the most bytes that an answer takes, without its newline
abbrev pub longest : ℕ
longest = 106
