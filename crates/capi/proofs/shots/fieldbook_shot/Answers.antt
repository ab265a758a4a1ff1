-- The answer's words are the values of the book's own answer.
use mathlib.Core.Path.{◌≡◌, sym, subst}
use mir.Facts.{to_z-of_z}
use Rattle.fieldbook.specs.Shot.{ShotValues, query, shot_values, ShotReduced, shot}
use Rattle.fieldbook.specs.declared.Query.{Query}
use Rattle.capi.specs.Interface.{numbers}
use Rattle.capi.proofs.shots.fieldbook_shot.Goals.{After-shot}
use Rattle.capi.proofs.shots.fieldbook_shot.Goals as goal

module _ (c : After-shot) where
  abbrev x : Query
  x =
      let a = c.args in
      query
      (numbers a.year a.month a.day a.hour a.minute a.millisecond a.dut1 a.latitude a.longitude a.body a.delta_t)
      a.options

  is-shot : (shot_values c.shot.result ≡ shot x) × ShotReduced (shot_values c.shot.result)
  is-shot =
      let f = c.ranges in
      let n = c.query_with.ensures in
      let is = c.shot.ensures in
      simp (n, to_z-of_z, f.year, f.month, f.day, f.hour, f.minute, f.millisecond, f.dut1, f.latitude, f.longitude, f.body, f.delta_t) at is

pub returns : goal.returns
returns c =
    let d = c.before in
    subst (λ (v : ShotValues). (v ≡ shot (x d)) × ShotReduced v) (sym c.answer_of.ensures) (is-shot d)
