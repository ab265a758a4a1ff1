-- Document 01, "One session, whole", and document 02, requests 1, 7 and 8 (RULES.md, "Lines"): what a line is answered, and the card after it. An answer is a
-- line of ASCII bytes that ends in a newline.
use Rattle.std.specs.Prelude.{Bool, cond, ◌&&◌, List, [], ◌∷◌, ◌++◌, ℕ, suc, ◌+◌, eqb, leb, ℤ, length}
use Rattle.refusal.specs.Tests.{decided}
use Rattle.exact.specs.Nth.{nth}
use Rattle.digits.specs.Text.{text}
use Rattle.card.specs.Fields.{number_in, field_count, field_of}
use Rattle.card.specs.Calls.{hear, confirm, held_tests, read_card}
use Rattle.card.specs.declared.Card.{Card}
use Rattle.fieldbook.specs.Shot.{ShotValues, defaults, option_count, query_of, shot, shot_from_card}
use Rattle.pointing.specs.Pointing.{PointingValues, pointing}
use Rattle.short_series.specs.Editions.{EditionsValues, number_count, time_of, editions}
use Rattle.lines.specs.Numerals.{numbers_of}
use Rattle.lines.specs.Appending.{decimal_text}
use Rattle.replies.specs.Commands.{session_command}
use Rattle.replies.specs.declared.Command.{Command}
use Rattle.replies.specs.declared.Command.TheVariants.{Hear, Read, Confirm, Shoot, Malformed}
use Rattle.replies.specs.declared.Protocol.{Protocol}
use Rattle.replies.specs.declared.Protocol.TheVariants.{Session, Batch}
use Rattle.replies.specs.declared.Question.{Question}
use Rattle.replies.specs.declared.Question.TheVariants.{Shot, Pointing, Editions}

-- a label and a number in plain decimal
abbrev pub labelled_text : List ℕ → ℕ → List ℕ
labelled_text label n = label ++ decimal_text n

-- two labels, each with its number
abbrev pub pair_text : List ℕ → ℕ → List ℕ → ℕ → List ℕ
pair_text first m second n = labelled_text first m ++ labelled_text second n

-- `no N`, by the number of a refusal
abbrev pub refusal_text : ℕ → List ℕ
refusal_text n = labelled_text (110 ∷ 111 ∷ 32 ∷ []) n

-- ---- hearing and confirming
-- `ok` where nothing is refused
abbrev pub verdict_text : ℕ → List ℕ
verdict_text n = cond (eqb n 0) (111 ∷ 107 ∷ []) (refusal_text n)

-- ---- reading
-- the text of the number that the field holds. (It always has room, so that refusal 11 is never given: proofs/NeverEleven.antt)
unfoldable pub read_text : Card → ℤ → List ℕ
read_text c f = decided (held_tests c f) (text (number_in (field_of c f))) refusal_text

unfoldable pub card_read : Card → ℤ → Card
card_read c f = decided (held_tests c f) (read_card c f) (λ k. c)

-- ---- a shot
-- `az A zd Z`, in units of 0.0001″
abbrev pub direction_text : ShotValues → List ℕ
direction_text v = pair_text (97 ∷ 122 ∷ 32 ∷ []) v.azimuth (32 ∷ 122 ∷ 100 ∷ 32 ∷ []) v.zenith_distance

-- and in a batch ` ha H s S` behind it
abbrev pub angles_text : Protocol → ShotValues → List ℕ
angles_text Session v = direction_text v
angles_text (Batch q) v = direction_text v ++ pair_text (32 ∷ 104 ∷ 97 ∷ 32 ∷ []) v.hour_angle (32 ∷ 115 ∷ 32 ∷ []) v.longitude

abbrev pub shot_text : Protocol → ShotValues → List ℕ
shot_text p v = cond (eqb v.refusal 0) (angles_text p v) (refusal_text v.refusal)

-- ---- a pointing
-- `mark M`, in units of 0.0001″
abbrev pub mark_text : PointingValues → List ℕ
mark_text v = cond (eqb v.refusal 0) (labelled_text (109 ∷ 97 ∷ 114 ∷ 107 ∷ 32 ∷ []) v.mark) (refusal_text v.refusal)

-- ---- both editions
-- `short S full F`, in units of 0.0001″
abbrev pub longitudes_text : EditionsValues → List ℕ
longitudes_text v = pair_text (115 ∷ 104 ∷ 111 ∷ 114 ∷ 116 ∷ 32 ∷ []) v.short (32 ∷ 102 ∷ 117 ∷ 108 ∷ 108 ∷ 32 ∷ []) v.full

-- and ` apart D bound B` behind it
abbrev pub compared_text : EditionsValues → List ℕ
compared_text v =
    longitudes_text v ++ pair_text (32 ∷ 97 ∷ 112 ∷ 97 ∷ 114 ∷ 116 ∷ 32 ∷ []) v.apart (32 ∷ 98 ∷ 111 ∷ 117 ∷ 110 ∷ 100 ∷ 32 ∷ []) v.bound

abbrev pub editions_text : EditionsValues → List ℕ
editions_text v = cond (eqb v.refusal 0) (compared_text v) (refusal_text v.refusal)

-- ---- the numbers of a line of a batch
-- how many the question takes: a shot one for each field, in the order of the card, a pointing the horizontal angle behind them, and both editions those of
-- an instant
abbrev pub numbers_asked : Question → ℕ
numbers_asked Shot = field_count
numbers_asked Pointing = suc field_count
numbers_asked Editions = number_count

-- behind those of a shot or a pointing options may stand, in their order
abbrev pub options_asked : Question → ℕ
options_asked Shot = option_count
options_asked Pointing = option_count
options_asked Editions = 0

abbrev pub is_asked : Question → ℕ → Bool
is_asked q count = leb (numbers_asked q) count && leb count (numbers_asked q + options_asked q)

-- what so many are answered: an option that is left out has its default
abbrev pub asked_text : Question → List ℤ → List ℕ
asked_text Shot l = shot_text (Batch Shot) (shot (query_of l (numbers_asked Shot)))
asked_text Pointing l = mark_text (pointing (query_of l (numbers_asked Pointing)) (nth l field_count))
asked_text Editions l = editions_text (editions (time_of l))

-- and what any are: where there are more or fewer, the line is malformed
abbrev pub batch_text : Question → List ℤ → List ℕ
batch_text q l = cond (is_asked q (length l)) (asked_text q l) (refusal_text 14)

-- ---- a command
-- its answer, and the card afterwards
abbrev pub command_text : Command → Card → List ℕ
command_text (Hear f n) c = verdict_text (hear c f n).refusal
command_text (Read f) c = read_text c f
command_text (Confirm f) c = verdict_text (confirm c f).refusal
command_text Shoot c = shot_text Session (shot_from_card c defaults)
command_text Malformed c = refusal_text 14

abbrev pub command_card : Command → Card → Card
command_card (Hear f n) c = (hear c f n).card
command_card (Read f) c = card_read c f
command_card (Confirm f) c = (confirm c f).card
command_card Shoot c = c
command_card Malformed c = c

-- ---- a line
-- of a batch, of numbers of 1 to 18 digits: its answer with the newline
unfoldable pub batch_reply : Question → List ℕ → List ℕ
batch_reply q l = batch_text q (numbers_of 18 l) ++ (10 ∷ [])

-- of a program: its answer with the newline, and the card afterwards, which no batch touches
unfoldable pub reply : Protocol → Card → List ℕ → List ℕ
reply Session c l = command_text (session_command l) c ++ (10 ∷ [])
reply (Batch q) c l = batch_reply q l

unfoldable pub next : Protocol → Card → List ℕ → Card
next Session c l = command_card (session_command l) c
next (Batch q) c l = c
