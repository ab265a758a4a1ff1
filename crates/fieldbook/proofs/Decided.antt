-- A shot by what its parts answer: a refusal of the card, the calendar, the site or the sight is handed on, or the shot goes on from there.
use mathlib.Core.Path.{◌≡◌, refl, ap, ◌∙◌}
use mathlib.Core.List.{List}
use Prim.Native.Nat.{ℕ}
use native.Mathlib.Omega.{arith}
use lib.Dec.{lit<}
use lib.IntN.{ℤ}
use Rattle.refusal.specs.RefusalNumbers.{number_of}
use Rattle.refusal.specs.Tests.{Test}
use Rattle.refusal.specs.declared.Refusal.{Refusal}
use Rattle.refusal.proofs.Decisions.{Numbered, Refusable, handed-on, passed_on, is-answer, first-refuse, first-pass}
use Rattle.calendar.specs.Time as Time
use Rattle.calendar.specs.Time.{InstantValues, instant_epochs, accepted, instant_tests, instant_of}
use Rattle.calendar.specs.declared.Epochs.{Epochs}
use Rattle.site.specs.Site as Site
use Rattle.site.specs.Site.{LocatedValues, position, site_tests, position_of}
use Rattle.site.specs.declared.Site.{Site}
use Rattle.site.specs.Site.{Position}
use Rattle.horizon.specs.Horizon as Horizon
use Rattle.horizon.specs.Horizon.{View, SightValues, seen, sight_tests, sight_of}
use Rattle.card.specs.Confirmed.{ConfirmedValues, numbers_in, card_tests, given, withheld, confirmed_numbers}
use Rattle.card.specs.declared.Card.{Card}
use Rattle.fieldbook.specs.Shot.{ShotValues, refused, ShotReduced, answered, numbers_of, query, tests_from, tests_at, answer_from, tests, answer_of, shot, card_query, shot_from_card}
use Rattle.fieldbook.specs.Parts.{sighted_shot, shot_from, shot_at}
use Rattle.fieldbook.specs.declared.Numbers.{Numbers}
use Rattle.fieldbook.specs.declared.Options.{Options}
use Rattle.fieldbook.specs.declared.Query.{Query}

-- a refusal's angles
pub refused-reduced : (k : ℕ) → ShotReduced (refused k)
refused-reduced k = (lit< tt, lit< tt, lit< tt, lit< tt)

-- ---- by the answer of a sight
abbrev sights : Refusable SightValues
sights = record { number = λ v. v.refusal; refused = Horizon.refused; gives = λ k. refl }

module _ (v : View) (s : ℕ) where
  seen-number : (seen v).refusal ≡ 0
  unfolding seen
  seen-number = refl

  pub refused-sight : (r : Refusal) → Horizon.refused (number_of r) ≡ sight_of v → refused (number_of r) ≡ sighted_shot v s
  unfolding sight_of
  refused-sight r e = handed-on sights (seen v) seen-number (answered v s) refused (sight_tests v) r (ap (λ (a : SightValues). a.refusal) e)

  abbrev with_longitude : SightValues → ShotValues
  with_longitude a = record { refusal = 0; azimuth = a.azimuth; zenith_distance = a.zenith_distance; hour_angle = a.hour_angle; longitude = s }

  pub answered-sight : (a : SightValues) → 0 ≡ a.refusal → a ≡ sight_of v → with_longitude a ≡ sighted_shot v s
  unfolding sight_of
  answered-sight a z e =
      let ts = sight_tests v in
      let all : Numbered ts = (omega arith, (omega arith, tt)) in
      ap with_longitude (is-answer sights (seen v) seen-number ts all a z e)
      ∙ passed_on sights (seen v) seen-number (answered v s) refused ts all (z ∙ ap (λ (a : SightValues). a.refusal) e)

-- ---- by the site's answer
abbrev sites : Refusable LocatedValues
sites = record { number = λ v. v.refusal; refused = Site.refused; gives = λ k. refl }

module _ (es : Epochs) (site : Site) (body : ℤ) (o : Options) where
  abbrev located : LocatedValues
  located = Site.accepted (position site)

  abbrev rest : List Test
  rest = tests_from es (position site) body o

  pub refused-site : (r : Refusal) → Site.refused (number_of r) ≡ position_of site → refused (number_of r) ≡ shot_at es site body o
  unfolding position_of shot_at
  refused-site r e =
      first-refuse sites located refl (site_tests site) rest (answer_from es (position site) body o) refused r (ap (λ (a : LocatedValues). a.refusal) e)

  pub accepted-site : (p : Position) → Site.accepted p ≡ position_of site → shot_from es p body o ≡ shot_at es site body o
  unfolding position_of shot_at shot_from
  accepted-site p e =
      let all : Numbered (site_tests site) = (omega arith, tt) in
      let h = first-pass sites located refl (site_tests site) rest (answer_from es (position site) body o) refused all (Site.accepted p) refl e in
      ap (λ (a : LocatedValues). shot_from es (record { latitude = a.latitude; longitude = a.longitude }) body o) h.0 ∙ h.1

-- ---- by the calendar's answer
abbrev instants : Refusable InstantValues
instants = record { number = λ v. v.refusal; refused = Time.refused; gives = λ k. refl }

module _ (x : Query) where
  abbrev n : Numbers
  n = x.numbers

  abbrev found : Epochs
  found = instant_epochs n.time

  abbrev after : List Test
  after = tests_at found n.site n.body x.options

  pub refused-instant : (r : Refusal) → Time.refused (number_of r) ≡ instant_of n.time → refused (number_of r) ≡ shot x
  unfolding instant_of shot
  refused-instant r e = first-refuse instants (accepted found) refl (instant_tests n.time) after (answer_of x) refused r (ap (λ (a : InstantValues). a.refusal) e)

  pub accepted-instant : (es : Epochs) → accepted es ≡ instant_of n.time → shot_at es n.site n.body x.options ≡ shot x
  unfolding instant_of shot shot_at
  accepted-instant es e =
      let all : Numbered (instant_tests n.time) = (omega arith, (omega arith, (omega arith, (omega arith, tt)))) in
      let h = first-pass instants (accepted found) refl (instant_tests n.time) after (answer_of x) refused all (accepted es) refl e in
      ap (λ (a : InstantValues). shot_at a.epochs n.site n.body x.options) h.0 ∙ h.1

-- ---- by the numbers of a card
abbrev cards : Refusable ConfirmedValues
cards = record { number = λ v. v.refusal; refused = withheld; gives = λ k. refl }

module _ (c : Card) (o : Options) where
  abbrev asked : Query
  asked = card_query c o

  pub refused-card : (r : Refusal) → number_of r ≡ (confirmed_numbers c).refusal → refused (number_of r) ≡ shot_from_card c o
  unfolding shot_from_card
  refused-card r e = first-refuse cards (given (numbers_in c)) refl (card_tests c) (tests asked) (answer_of asked) refused r e

  pub confirmed-card : (numbers : List ℤ) → given numbers ≡ confirmed_numbers c → shot (query (numbers_of numbers) o) ≡ shot_from_card c o
  unfolding shot_from_card shot
  confirmed-card numbers e =
      let all : Numbered (card_tests c) = (omega arith, tt) in
      let h = first-pass cards (given (numbers_in c)) refl (card_tests c) (tests asked) (answer_of asked) refused all (given numbers) refl e in
      ap (λ (a : ConfirmedValues). shot (query (numbers_of a.numbers) o)) h.0 ∙ h.1
