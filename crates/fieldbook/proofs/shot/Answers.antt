-- The first refusal that applies, or the shot of the body, by the laws of `Decided`.
use Rattle.std.proofs.lemmas.Result.{err_from_is_err_and}
use mathlib.Core.Path.{◌≡◌, sym, ap, ◌∙◌}
use mathlib.Core.Bool.{true, false, decide_iff}
use mathlib.Core.Logic.{◌⊎◌, inl, inr}
use native.Mathlib.Omega.{arith}
use lib.IntN.{ℤ, pos, nat_abs, ℤ_discrete}
use mir.Facts.{to_z-of_z}
use mir.Syntax.{w64}
use mir.Val.{SFits}
use Rattle.exact.specs.Range.{between}
use Rattle.exact.proofs.Choice.{not-decided}
use Rattle.calendar.specs.Time as Time
use Rattle.calendar.specs.Time.{instant_of}
use Rattle.calendar.specs.declared.Epochs.{Epochs}
use Rattle.sun.specs.Editions.{is_edition}
use Rattle.site.specs.Site as Site
use Rattle.site.specs.Site.{position_of}
use Rattle.site.specs.Site.{Position}
use Rattle.fieldbook.specs.Shot.{refused, is_body, body_view, shot}
use Rattle.fieldbook.specs.Parts.{sun_shot, polaris_shot, shot_of, shot_from}
use Rattle.fieldbook.specs.Bodies.{body_number}
use Rattle.fieldbook.specs.declared.Body.{Body}
use Rattle.fieldbook.specs.declared.Body.TheVariants.{Sun, Polaris}
use Rattle.fieldbook.specs.declared.Options.{Options}
use Rattle.fieldbook.specs.declared.Query.{Query}
use Rattle.fieldbook.proofs.Decided.{refused-reduced, refused-instant, accepted-instant, refused-site, accepted-site}
use Rattle.fieldbook.proofs.shot.Goals as goal

-- ---- each body
module _ (es : Epochs) (p : Position) (body : ℤ) (o : Options) where
  sun-is : pos 1 ≡ body → sun_shot o.edition es p ≡ shot_of es p body o
  unfolding shot_of sun_shot body_view
  sun-is e = rw ((decide_iff (ℤ_discrete body (pos 1))).1 (sym e))

  polaris-is : pos 2 ≡ body → polaris_shot es p ≡ shot_of es p body o
  unfolding shot_of polaris_shot body_view
  polaris-is e = rw (not-decided (ℤ_discrete body (pos 1)) (λ k. omega (arith, ap nat_abs (e ∙ k))))

known : (body : ℤ) → (pos 1 ≡ body) ⊎ (pos 2 ≡ body) → is_body body ≡ true
unfolding between
known body (inl e) = rw (← e)
known body (inr e) = rw (← e)

by-number : (b : Body) (body : ℤ) → body_number b ≡ body → is_body body ≡ true
by-number Sun body e = known body (inl e)
by-number Polaris body e = known body (inr e)

-- ---- where the instant and the site are accepted
module _ (x : Query) (es : Epochs) (p : Position) (e : Time.accepted es ≡ instant_of x.numbers.time) (f : Site.accepted p ≡ position_of x.numbers.site) where
  abbrev body : ℤ
  body = x.numbers.body

  from-here : shot_from es p body x.options ≡ shot x
  from-here = accepted-site es x.numbers.site body x.options p f ∙ accepted-instant x es e

  no-body : is_body body ≡ false → refused 6 ≡ shot x
  unfolding shot_from
  no-body b = simp b at from-here

  no-edition : is_body body ≡ true → is_edition x.options.edition ≡ false → refused 19 ≡ shot x
  unfolding shot_from
  no-edition b o = simp (b, o) at from-here

  -- a body that is known, and an edition that is
  shot-of : is_body body ≡ true → is_edition x.options.edition ≡ true → shot_of es p body x.options ≡ shot x
  unfolding shot_of shot_from
  shot-of b o = simp (b, o) at from-here

  sun : pos 1 ≡ body → is_edition x.options.edition ≡ true → sun_shot x.options.edition es p ≡ shot x
  sun b o = sun-is es p body x.options b ∙ shot-of (known body (inl b)) o

  polaris : pos 2 ≡ body → is_edition x.options.edition ≡ true → polaris_shot es p ≡ shot x
  polaris b o = polaris-is es p body x.options b ∙ shot-of (known body (inr b)) o

-- ---- the exits
pub returns-in_err-epochs : goal.returns-in_err-epochs
returns-in_err-epochs c =
    let p = err_from_is_err_and c.from_residual.result c.from_residual.ensures.1 in
    rw (p.1, p.2) (refused-instant c.args.query _ c.in_err-epochs.ensures, refused-reduced 0)

pub returns-in_err-position : goal.returns-in_err-position
returns-in_err-position c =
    let q = c.args.query in
    let es = c.in_ok-epochs.epochs in
    let p = err_from_is_err_and c.from_residual-in_err-position.result c.from_residual-in_err-position.ensures.1 in
    let e = refused-site es q.numbers.site q.numbers.body q.options _ c.in_err-position.ensures in
    rw (p.1, p.2) (e ∙ accepted-instant q es c.in_ok-epochs.ensures, refused-reduced 0)

pub returns-in_err-body : goal.returns-in_err-body
returns-in_err-body c =
    let q = c.args.query in
    let body-fits : SFits w64 q.numbers.body = record { sfits = omega arith } in
    let p = err_from_is_err_and c.from_residual-in_err-body.result c.from_residual-in_err-body.ensures.1 in
    let b = simp (to_z-of_z, body-fits) at c.in_err-body.ensures in
    rw (p.1, p.2, b.0) (no-body q _ _ c.in_ok-epochs.ensures c.in_ok-position.ensures b.1, refused-reduced 6)

pub returns-then-not-between : goal.returns-then-not-between
returns-then-not-between c =
    let q = c.args.query in
    let body-fits : SFits w64 q.numbers.body = record { sfits = omega arith } in
    let edition-fits : SFits w64 q.options.edition = record { sfits = omega arith } in
    let b = simp (to_z-of_z, body-fits) at c.in_ok-body.ensures in
    let o = simp (to_z-of_z, edition-fits) at c.if-not-between.ensures in
    (no-edition q _ _ c.in_ok-epochs.ensures c.in_ok-position.ensures (by-number c.in_ok-body.body q.numbers.body b) (sym o), refused-reduced 19)

pub returns-in-Sun : goal.returns-in-Sun
returns-in-Sun c =
    let q = c.args.query in
    let p = c.in_ok-position.position in
    let body-fits : SFits w64 q.numbers.body = record { sfits = omega arith } in
    let edition-fits : SFits w64 q.options.edition = record { sfits = omega arith } in
    let b = simp (c.in-Sun.is, to_z-of_z, body-fits) at c.in_ok-body.ensures in
    let o = simp (to_z-of_z, edition-fits) at c.if-not-between.ensures in
    let s = simp (to_z-of_z, edition-fits) at c.sun_shot.ensures.0 in
    (s ∙ ap (λ (es : Epochs). sun_shot q.options.edition es p) c.of-astrometry.ensures ∙ sun q _ p c.in_ok-epochs.ensures c.in_ok-position.ensures b (sym o), c.sun_shot.ensures.1)

pub returns-in-Polaris : goal.returns-in-Polaris
returns-in-Polaris c =
    let q = c.args.query in
    let p = c.in_ok-position.position in
    let body-fits : SFits w64 q.numbers.body = record { sfits = omega arith } in
    let edition-fits : SFits w64 q.options.edition = record { sfits = omega arith } in
    let b = simp (c.in-Polaris.is, to_z-of_z, body-fits) at c.in_ok-body.ensures in
    let o = simp (to_z-of_z, edition-fits) at c.if-not-between.ensures in
    (c.polaris_shot.ensures.0 ∙ ap (λ (es : Epochs). polaris_shot es p) c.of-astrometry.ensures ∙ polaris q _ p c.in_ok-epochs.ensures c.in_ok-position.ensures b (sym o), c.polaris_shot.ensures.1)
