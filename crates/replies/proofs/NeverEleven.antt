-- No program ever gives refusal 11, whatever the lines are and whatever the card holds: no line of any program is answered `no 11`.
use mathlib.Core.Path.{◌≡◌, refl, ap}
use mathlib.Core.Bool.{Bool, true, false, cond}
use mathlib.Core.Logic.{◌≢◌}
use mathlib.Core.List.{List, [], ◌∷◌, ◌++◌}
use Prim.Native.Nat.{ℕ, ◌+◌}
use lib.Dec.{eqb}
use lib.IntN.{ℤ, pos, negsuc}
use lib.ListN.{length, get_or}
use borrow.Author.Tests.{eqb-false}
use Rattle.refusal.proofs.Decisions.{Each, holds-decided}
use Rattle.digits.specs.Text.{decimal_in, decimal, spaced, digits, text}
use Rattle.card.specs.Fields.{number_in, slot_index, field_of, put}
use Rattle.card.specs.Confirmed.{card_tests}
use Rattle.card.specs.Calls as Calls
use Rattle.card.specs.Calls.{CardValues, accepted, hear_tests, hear_card, hear, confirm_tests, confirm, held_tests}
use Rattle.card.specs.declared.Card.{Card}
use Rattle.card.specs.declared.Field.TheVariants.{Confirmed}
use Rattle.calendar.specs.Time.{instant_epochs, instant_tests}
use Rattle.calendar.specs.declared.CivilTime.{CivilTime}
use Rattle.fieldbook.specs.Shot.{defaults, refused, tests, answer_of, shot, card_query, shot_from_card}
use Rattle.fieldbook.specs.declared.Query.{Query}
use Rattle.pointing.specs.Pointing as Mark
use Rattle.pointing.specs.Pointing.{pointing_tests, pointed, pointing}
use Rattle.short_series.specs.Editions as Series
use Rattle.short_series.specs.Editions.{compared_at, editions}
use Rattle.lines.specs.Numerals.{numbers_of}
use Rattle.lines.specs.Appending.{decimal_text}
use Rattle.replies.specs.Commands.{session_command}
use Rattle.replies.specs.Answers.{refusal_text, verdict_text, read_text, shot_text, mark_text, editions_text, command_text, is_asked, asked_text, batch_reply, reply}
use Rattle.replies.specs.declared.Command.{Command}
use Rattle.replies.specs.declared.Command.TheVariants.{Hear, Read, Confirm, Shoot, Malformed}
use Rattle.replies.specs.declared.Protocol.{Protocol}
use Rattle.replies.specs.declared.Protocol.TheVariants.{Session, Batch}
use Rattle.replies.specs.declared.Question.{Question}
use Rattle.replies.specs.declared.Question.TheVariants.{Shot, Pointing, Editions}

abbrev NotEleven : List ℕ → Type 0
NotEleven t = t ++ (10 ∷ []) ≢ refusal_text 11 ++ (10 ∷ [])

-- told by one byte
differs : (i : ℕ) (t : List ℕ) → eqb (get_or (t ++ (10 ∷ [])) i 0) (get_or (refusal_text 11 ++ (10 ∷ [])) i 0) ≡ false → NotEleven t
differs i t d e = eqb-false _ _ d (ap (λ (l : List ℕ). get_or l i 0) e)

-- the second byte of a text, where it has one, is a space
spaced-is-not : (l : List ℕ) → NotEleven (spaced l)
unfolding decimal_text decimal decimal_in spaced
spaced-is-not [] = differs 1 [] refl
spaced-is-not (d ∷ []) = differs 1 ((48 + d) ∷ []) refl
spaced-is-not (d ∷ e ∷ l) = differs 1 ((48 + d) ∷ 32 ∷ spaced (e ∷ l)) refl

text-is-not : (z : ℤ) → NotEleven (text z)
unfolding digits decimal_text decimal decimal_in
text-is-not (pos n) = spaced-is-not (decimal n)
text-is-not (negsuc n) = differs 1 (text (negsuc n)) refl

-- the fifth byte of `no N` tells 11 from each number that is given
tell : (k : ℕ) → eqb (get_or (refusal_text k ++ (10 ∷ [])) 4 0) (get_or (refusal_text 11 ++ (10 ∷ [])) 4 0) ≡ false → NotEleven (refusal_text k)
tell k = differs 4 (refusal_text k)

-- ---- by what is asked
module _ (c : Card) (f : ℤ) where
  abbrev Verdict : CardValues → Type 0
  Verdict a = NotEleven (verdict_text a.refusal)

  hear-is-not : (z : ℤ) → NotEleven (verdict_text (hear c f z).refusal)
  unfolding decimal_text decimal decimal_in
  hear-is-not z =
      holds-decided Verdict (hear_tests f z) (accepted (hear_card c f z)) (Calls.refused c)
      (differs 1 (verdict_text 0) refl)
      (tell 9 refl, (tell 13 refl, tt))

  confirm-is-not : NotEleven (verdict_text (confirm c f).refusal)
  unfolding decimal_text decimal decimal_in
  confirm-is-not =
      holds-decided Verdict (confirm_tests c f) (accepted (put c (slot_index f) (Confirmed (number_in (field_of c f)))))
      (Calls.refused c)
      (differs 1 (verdict_text 0) refl)
      (tell 9 refl, (tell 12 refl, tt))

  read-is-not : NotEleven (read_text c f)
  unfolding read_text decimal_text decimal decimal_in
  read-is-not = holds-decided NotEleven (held_tests c f) (text (number_in (field_of c f))) refusal_text (text-is-not (number_in (field_of c f))) (tell 9 refl, (tell 10 refl, tt))

-- a shot and its pointing, by the shot's tests
tests-are-not : (x : Query) → Each (λ k. NotEleven (refusal_text k)) (tests x)
unfolding decimal_text decimal decimal_in
tests-are-not x = (tell 2 refl, (tell 3 refl, (tell 4 refl, (tell 17 refl, (tell 5 refl, (tell 6 refl, (tell 19 refl, (tell 7 refl, (tell 8 refl, tt)))))))))

card-shot-is-not : (c : Card) → NotEleven (shot_text Session (shot_from_card c defaults))
unfolding shot_from_card decimal_text decimal decimal_in
card-shot-is-not c =
    let x = card_query c defaults in
    holds-decided (λ v. NotEleven (shot_text Session v)) (card_tests c ++ tests x) (answer_of x) refused (differs 0 (shot_text Session (answer_of x)) refl) (tell 1 refl, tests-are-not x)

module _ (x : Query) where
  shot-is-not : NotEleven (shot_text (Batch Shot) (shot x))
  unfolding shot decimal_text decimal decimal_in
  shot-is-not =
      let p = Batch Shot in
      holds-decided (λ v. NotEleven (shot_text p v)) (tests x) (answer_of x) refused (differs 0 (shot_text p (answer_of x)) refl) (tests-are-not x)

  -- a pointing that its shot refuses. (the number of an answered shot is 0, which would read `mark 0`)
  refused-mark-is-not : NotEleven (mark_text (Mark.refused (shot x).refusal))
  unfolding shot decimal_text decimal decimal_in
  refused-mark-is-not =
      holds-decided (λ v. NotEleven (mark_text (Mark.refused v.refusal))) (tests x) (answer_of x) refused (differs 0 (mark_text (Mark.refused 0)) refl) (tests-are-not x)

  mark-is-not : (angle : ℤ) → NotEleven (mark_text (pointing x angle))
  unfolding pointed decimal_text decimal decimal_in
  mark-is-not angle =
      let v = Mark.answered (Mark.mark_azimuth (shot x).azimuth angle) in
      holds-decided (λ a. NotEleven (mark_text a)) (pointing_tests (shot x) angle) v Mark.refused (differs 0 (mark_text v) refl) (refused-mark-is-not, (tell 15 refl, tt))

editions-is-not : (t : CivilTime) → NotEleven (editions_text (editions t))
unfolding editions compared_at decimal_text decimal decimal_in
editions-is-not t =
    let v = compared_at (instant_epochs t).ephemeris in
    holds-decided (λ a. NotEleven (editions_text a)) (instant_tests t) v Series.refused (differs 0 (editions_text v) refl)
    (tell 2 refl, (tell 3 refl, (tell 4 refl, (tell 17 refl, tt))))

command-is-not : (a : Command) (c : Card) → NotEleven (command_text a c)
unfolding decimal_text decimal decimal_in
command-is-not (Hear f z) c = hear-is-not c f z
command-is-not (Read f) c = read-is-not c f
command-is-not (Confirm f) c = confirm-is-not c f
command-is-not Shoot c = card-shot-is-not c
command-is-not Malformed c = tell 14 refl

asked-is-not : (q : Question) (l : List ℤ) → NotEleven (asked_text q l)
asked-is-not Shot l = shot-is-not _
asked-is-not Pointing l = mark-is-not _ _
asked-is-not Editions l = editions-is-not _

-- (b: whether there are as many numbers as the question may have)
batch-is-not : (b : Bool) (q : Question) (l : List ℤ) → NotEleven (cond b (asked_text q l) (refusal_text 14))
unfolding decimal_text decimal decimal_in
batch-is-not true q l = asked-is-not q l
batch-is-not false q l = tell 14 refl

pub never-eleven : (p : Protocol) (c : Card) (l : List ℕ) → reply p c l ≢ refusal_text 11 ++ (10 ∷ [])
unfolding reply batch_reply
never-eleven Session c l = command-is-not (session_command l) c
never-eleven (Batch q) c l = batch-is-not (is_asked q (length (numbers_of 18 l))) q (numbers_of 18 l)
