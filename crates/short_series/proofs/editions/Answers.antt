-- The calendar's answer decides.
use mathlib.Core.Path.{◌≡◌, refl, ap, ◌∙◌}
use native.Mathlib.Omega.{arith}
use Rattle.std.proofs.lemmas.Result.{err_from_is_err_and}
use Rattle.refusal.specs.RefusalNumbers.{number_of}
use Rattle.refusal.specs.declared.Refusal.{Refusal}
use Rattle.refusal.proofs.Decisions.{Numbered, Refusable, handed-on, passed_on, is-answer}
use Rattle.calendar.specs.Time as Time
use Rattle.calendar.specs.Time.{InstantValues, instant_epochs, accepted, instant_tests, instant_of}
use Rattle.calendar.specs.declared.CivilTime.{CivilTime}
use Rattle.calendar.specs.declared.Epochs.{Epochs}
use Rattle.short_series.specs.Editions.{refused, compared_at, editions}
use Rattle.short_series.proofs.editions.Goals as goal

abbrev instants : Refusable InstantValues
instants = record { number = λ v. v.refusal; refused = Time.refused; gives = λ k. refl }

module _ (t : CivilTime) where
  abbrev found : Epochs
  found = instant_epochs t

  refused-editions : (r : Refusal) → Time.refused (number_of r) ≡ instant_of t → refused (number_of r) ≡ editions t
  unfolding instant_of editions
  refused-editions r e =
      handed-on instants (accepted found) refl (compared_at found.ephemeris) refused (instant_tests t) r (ap (λ (v : InstantValues). v.refusal) e)

  compared-editions : (es : Epochs) → accepted es ≡ instant_of t → compared_at es.ephemeris ≡ editions t
  unfolding instant_of editions
  compared-editions es e =
      let all : Numbered (instant_tests t) = (omega arith, (omega arith, (omega arith, (omega arith, tt)))) in
      ap (λ (v : InstantValues). compared_at v.epochs.ephemeris) (is-answer instants (accepted found) refl (instant_tests t) all (accepted es) refl e)
      ∙ passed_on instants (accepted found) refl (compared_at found.ephemeris) refused (instant_tests t) all (ap (λ (v : InstantValues). v.refusal) e)

pub returns : goal.returns
returns c = c.compared_at.ensures ∙ compared-editions c.args.time c.in_ok-epochs.epochs c.in_ok-epochs.ensures

pub returns-in_err-epochs : goal.returns-in_err-epochs
returns-in_err-epochs c =
    let e = err_from_is_err_and c.from_residual.result c.from_residual.ensures.1 in
    rw (e.1, e.2) (refused-editions c.args.time _ c.in_err-epochs.ensures)
