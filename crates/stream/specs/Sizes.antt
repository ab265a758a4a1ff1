-- The room that a program lends for its input and its answers.
use Rattle.std.specs.Prelude.{ℕ, suc}
use Rattle.replies.specs.Sizes.{longest}

-- the bytes that are read at once, at most
abbrev pub chunk_length : ℕ
chunk_length = 4_096

-- the bytes that an answer and its newline take at most
abbrev pub room : ℕ
room = suc longest
