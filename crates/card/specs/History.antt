-- Histories of calls on a card (document 01, "The card"; document 02, request 6; RULES.md, "The card"): what an undo takes back, and what it means that a
-- number was heard, then read out, then confirmed. proofs/ConfirmedWasReadOut.antt has the theorem that every confirmed number was, from any card on.
use Rattle.std.specs.Prelude.{◌≡◌, Bool, true, false, cond, ◌&&◌, ◌≢◌, ◌⊎◌, Option, Some, None, List, [], ◌∷◌, ◌++◌, ℕ, ◌≤◌, ℤ, pos, nat_abs}
use Rattle.digits.specs.Text.{text}
use Rattle.digits.specs.Writing.{over}
use Rattle.card.specs.Fields.{number_in, is_field, DUT1, field_of, Before}
use Rattle.card.specs.Calls as Calls
use Rattle.card.specs.Calls.{can_be_heard, buffer_after}
use Rattle.card.specs.declared.Field.{Field}
use Rattle.card.specs.declared.Field.TheVariants.{Heard, Read, Confirmed}
use Rattle.card.specs.declared.Latest.{Latest}
use Rattle.card.specs.declared.Card.{Card}

-- ---- calls
-- one call, with its arguments: any field number, any number, any buffer and any place
pub data Call : Type 0 where
  hear : (field number : ℤ) → Call
  read : (field : ℤ) (buffer : List ℕ) (place : ℕ) → Call
  confirm : (field : ℤ) → Call
  undo : Call

-- the card after a call, refused or not
abbrev pub after : Card → Call → Card
after c (hear f n) = (Calls.hear c f n).card
after c (read f buffer place) = (Calls.read c f buffer place).card
after c (confirm f) = (Calls.confirm c f).card
after c undo = (Calls.undo c).card

-- its refusal number, 0 where it is accepted
abbrev pub refusal : Card → Call → ℕ
refusal c (hear f n) = (Calls.hear c f n).refusal
refusal c (read f buffer place) = (Calls.read c f buffer place).refusal
refusal c (confirm f) = (Calls.confirm c f).refusal
refusal c undo = (Calls.undo c).refusal

-- the card after calls, one after the other
unfoldable pub after_all : Card → List Call → Card
after_all c [] = c
after_all c (call ∷ calls) = after_all (after c call) calls

-- ---- what is undone
-- whether a hearing is accepted, which hangs on no card
abbrev pub is_heard : ℤ → ℤ → Bool
is_heard f n = is_field f && can_be_heard n

-- whether a call settles what is kept for an undo: by an accepted hearing it is another hearing, by an undo it is spent
abbrev pub settles : Call → Bool
settles (hear f n) = is_heard f n
settles (read f buffer place) = false
settles (confirm f) = false
settles undo = true

abbrev pub is_undo : Call → Bool
is_undo (hear f n) = false
is_undo (read f buffer place) = false
is_undo (confirm f) = false
is_undo undo = true

-- whether calls undo the latest hearing before them: the first of them that settles it is an undo
unfoldable pub is_undone : List Call → Bool
is_undone [] = false
is_undone (x ∷ calls) = cond (settles x) (is_undo x) (is_undone calls)

-- whether none of them settles it: what is kept for an undo stays
unfoldable pub leaves_undo : List Call → Bool
leaves_undo [] = true
leaves_undo (x ∷ calls) = cond (settles x) false (leaves_undo calls)

-- no hearing for field f stands: each among the calls is refused, or is undone among them
unfoldable pub NothingStands : ℤ → List Call → Type 0
NothingStands f [] = Unit {0}
NothingStands f (x ∷ calls) = ((n : ℤ) → x ≡ hear f n → is_heard f n ≡ true → is_undone calls ≡ true) × NothingStands f calls

-- an undo on card d takes back the hearing for field f that was accepted on card c: f is what it was there, state and number, every other field stays
-- as it is, and until the next accepted hearing there is nothing to undo
pub record PutsBack (c : Card) (f : ℤ) (d : Card) : Type 0 where
  pub accepts : refusal d undo ≡ 0
  pub back : field_of (after d undo) f ≡ field_of c f
  pub others : (g : ℤ) → g ≢ f → field_of (after d undo) g ≡ field_of d g
  pub spent : (calls : List Call) → leaves_undo calls ≡ true → refusal (after_all (after d undo) calls) undo ≡ 18

-- ---- what may lie behind a number that stands confirmed after calls from a card c, told from the last of the three calls to the first
-- call x is one of the calls, and it was accepted
pub record AcceptedAmong (c : Card) (x : Call) (calls : List Call) : Type 0 where
  pub earlier : List Call
  pub later : List Call
  pub order : calls ≡ earlier ++ x ∷ later
  pub accepts : refusal (after_all c earlier) x ≡ 0

-- field f, which is read on c, was confirmed among the calls, and no hearing for f stands before or after
pub record ConfirmedAmong (c : Card) (f : ℤ) (calls : List Call) : Type 0 where
  pub call : AcceptedAmong c (confirm f) calls
  pub quiet : NothingStands f call.earlier × NothingStands f call.later

-- n, with which f is heard on c, was read out among the calls: its text was written, and no hearing for f stands before. After that it was confirmed
pub record ReadOutAmong (c : Card) (f n : ℤ) (calls : List Call) : Type 0 where
  pub buffer : List ℕ
  pub place : ℕ
  pub call : AcceptedAmong c (read f buffer place) calls
  pub shown : buffer_after (after_all c call.earlier) f buffer place ≡ over buffer place (text n)
  pub quiet : NothingStands f call.earlier
  pub confirmed : ConfirmedAmong (after (after_all c call.earlier) (read f buffer place)) f call.later

-- n was heard for f among the calls, which was not undone, after that read out, after that confirmed, and since that hearing none for f stands
pub record HeardAmong (c : Card) (f n : ℤ) (calls : List Call) : Type 0 where
  pub call : AcceptedAmong c (hear f n) calls
  pub stands : is_undone call.later ≡ false
  pub read_out : ReadOutAmong (after (after_all c call.earlier) (hear f n)) f n call.later

-- what of the three did not come among the calls stood on c already
pub data Story (c : Card) (f n : ℤ) (calls : List Call) : Type 0 where
  stood_confirmed : field_of c f ≡ Confirmed n → NothingStands f calls → Story c f n calls
  stood_read : field_of c f ≡ Read n → ConfirmedAmong c f calls → Story c f n calls
  stood_heard : field_of c f ≡ Heard n → ReadOutAmong c f n calls → Story c f n calls
  was_heard : HeardAmong c f n calls → Story c f n calls

-- the calls undo the hearing for f that c keeps, the latest before them: f is again what it was before that hearing, and the story is that of the calls
-- after the undo
pub record PutBackAmong (c : Card) (f n : ℤ) (calls : List Call) : Type 0 where
  pub between : List Call
  pub rest : List Call
  pub order : calls ≡ between ++ undo ∷ rest
  pub leaves : leaves_undo between ≡ true
  pub before : Field
  pub kept : c.latest ≡ Before f before
  pub back : field_of (after (after_all c between) undo) f ≡ before
  pub story : Story (after (after_all c between) undo) f n rest

-- the one number that nobody said: DUT1's 0 of the start before request 4, while no hearing for DUT1 stands
pub record AssumedZero (calls : List Call) (f n : ℤ) : Type 0 where
  pub field : f ≡ DUT1
  pub number : n ≡ pos 0
  pub nothing_stands : NothingStands f calls

-- ---- readings, and numbers that are held
-- among calls on a card, no reading of field f is accepted
abbrev pub NothingReadOut : Card → ℤ → List Call → Type 0
NothingReadOut c f calls =
    (earlier later : List Call) (buffer : List ℕ) (place : ℕ) → calls ≡ earlier ++ read f buffer place ∷ later
    → refusal (after_all c earlier) (read f buffer place) ≢ 0

-- m was read out on card c, for field f, and perhaps confirmed
abbrev pub WasReadOn : Card → ℤ → ℤ → Type 0
WasReadOn c f m = (field_of c f ≡ Read m) ⊎ (field_of c f ≡ Confirmed m)

-- the number that a field holds is at most 9,999,999 in magnitude. (An empty field holds none, and its 0 is no exception.)
abbrev pub Small : Field → Type 0
Small v = nat_abs (number_in v) ≤ 9_999_999

-- the same of what is kept for an undo, which is a field's
abbrev pub KeptSmall : Option Latest → Type 0
KeptSmall None = Unit {0}
KeptSmall (Some l) = (is_field l.field ≡ true) × Small l.before

abbrev pub HeldSmall : Card → Type 0
HeldSmall c = ((f : ℤ) → Small (field_of c f)) × KeptSmall c.latest
