-- Document 02, request 5: many shots in one call (RULES.md, "Many shots"). The numbers of the shots stand one row after the other in one list, the words of the
-- answers in another.
use Rattle.std.specs.Prelude.{List, [], ◌∷◌, ◌++◌, ℕ, zero, suc, ◌*◌, ◌/◌, min, ℤ, length, drop}
use Rattle.card.specs.Fields.{field_count}
use Rattle.fieldbook.specs.Shot.{ShotValues, numbers_of, query, shot}
use Rattle.fieldbook.specs.declared.Options.{Options}

-- the words of an answer, in their order
abbrev pub shot_words : ShotValues → List ℕ
shot_words v = v.refusal ∷ v.azimuth ∷ v.zenith_distance ∷ v.hour_angle ∷ v.longitude ∷ []

abbrev pub word_count : ℕ
word_count = 5

-- how many whole rows of numbers there are, and of room for their words: the fewer of the two
abbrev pub row_count : List ℤ → List ℕ → ℕ
row_count rows answers = min (length rows / field_count) (length answers / word_count)

-- the words of the first k rows, with the same options; row i begins where i rows end
unfoldable pub answers_to : Options → ℕ → List ℤ → List ℕ
answers_to o zero rows = []
answers_to o (suc k) rows = answers_to o k rows ++ shot_words (shot (query (numbers_of (drop (field_count * k) rows)) o))
