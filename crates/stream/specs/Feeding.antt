-- RULES.md, "Lines", for an input that comes in chunks: what is written for a chunk, and the card and the
-- unfinished line that it leaves.
use Rattle.std.specs.Prelude.{◌≡◌, cond, List, [], ◌∷◌, ◌++◌, ℕ, suc, eqb, take}
use Rattle.card.specs.Fields.{fresh_card}
use Rattle.card.specs.declared.Card.{Card}
use Rattle.lines.specs.Appending.{Appends}
use Rattle.lines.specs.declared.output.Output.{Output}
use Rattle.replies.specs.Commands.{longest_line}
use Rattle.replies.specs.Answers.{reply, next}
use Rattle.replies.specs.declared.Protocol.{Protocol}
use Rattle.stream.specs.Run.{run}
use Rattle.stream.specs.declared.State.{State}
use Rattle.stream.specs.declared.Kept.{Kept}

-- what a chunk brings about: the output, the card afterwards, and the unfinished line behind the last newline
pub record Progress : Type 0 where
  pub output : List ℕ
  pub card : Card
  pub line : List ℕ

-- with output before it
abbrev pub behind : List ℕ → Progress → Progress
behind o r = record { output = o ++ r.output; card = r.card; line = r.line }

-- byte by byte, where `begun` stands on the unfinished line already: a newline has it answered
unfoldable pub progress : Protocol → Card → List ℕ → List ℕ → Progress
progress p c begun [] = record { output = []; card = c; line = begun }
progress p c begun (b ∷ chunk) =
    cond (eqb b 10) (behind (reply p c begun) (progress p (next p c begun) [] chunk)) (progress p c (begun ++ (b ∷ [])) chunk)

-- what is written at the end of the input, for a last line without a newline
abbrev pub last_reply : Protocol → Card → List ℕ → List ℕ
last_reply p c [] = []
last_reply p c (b ∷ l) = reply p c (b ∷ l)

-- of an unfinished line the program keeps one byte more than the longest line has: enough to tell that it is malformed
abbrev pub kept_length : ℕ
kept_length = suc longest_line

-- between two chunks
abbrev pub cut : Progress → Progress
cut r = record { output = r.output; card = r.card; line = take kept_length r.line }

-- the bytes that are kept
abbrev pub held : Kept → List ℕ
held k = take k.len k.bytes

-- from a state
abbrev pub progress_from : Protocol → State → List ℕ → Progress
progress_from p s chunk = progress p s.card (held s.kept) chunk

-- a state that holds what was brought about
pub record Keeps (s : State) (r : Progress) : Type 0 where
  pub card : s.card ≡ r.card
  pub line : held s.kept ≡ r.line

-- what is written, behind what was before, and the state that is kept
pub record Feeds (p : Protocol) (before : State) (chunk : List ℕ) (after : State) (out_before out_after : Output) : Type 0 where
  pub wrote : Appends out_before (progress_from p before chunk).output out_after
  pub keeps : Keeps after (cut (progress_from p before chunk))

-- the same in a buffer that is begun anew: what is written there is the answers and nothing else
pub record FeedsAnew (p : Protocol) (before : State) (chunk : List ℕ) (after : State) (output : List ℕ) : Type 0 where
  pub wrote : output ≡ (progress_from p before chunk).output
  pub keeps : Keeps after (cut (progress_from p before chunk))

-- chunks, one after the other, where `begun` is kept of an unfinished line already
unfoldable pub progress_all : Protocol → Card → List ℕ → List (List ℕ) → Progress
progress_all p c begun [] = record { output = []; card = c; line = begun }
progress_all p c begun (chunk ∷ chunks) =
    let r = cut (progress p c begun chunk) in behind r.output (progress_all p r.card r.line chunks)

-- from a fresh card, with no line begun
abbrev pub from_start : Protocol → List (List ℕ) → Progress
from_start p chunks = progress_all p fresh_card [] chunks

-- all that is written for the chunks, with the answer to a last line. (proofs/AnyChunks.antt: it is the run of the input)
abbrev pub feed_all : Protocol → List (List ℕ) → List ℕ
feed_all p chunks = let r = from_start p chunks in r.output ++ last_reply p r.card r.line

-- the chunks, put together
unfoldable pub joined : List (List ℕ) → List ℕ
joined [] = []
joined (chunk ∷ chunks) = chunk ++ joined chunks

-- a state that chunks lead to
pub record Reached (p : Protocol) (s : State) : Type 0 where
  pub chunks : List (List ℕ)
  pub keeps : Keeps s (from_start p chunks)

-- such a state, and the output that is yet to come: behind what the chunks made, it completes the run of the chunks put together
pub record Completes (p : Protocol) (s : State) (output : List ℕ) : Type 0 where
  pub reached : Reached p s
  pub whole : (from_start p reached.chunks).output ++ output ≡ run p (joined reached.chunks)
