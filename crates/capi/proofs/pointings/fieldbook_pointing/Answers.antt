-- The answer's words are the values of the book's own answer.
use mathlib.Core.Path.{◌≡◌, subst}
use Rattle.std.specs.Prelude.{Result, ℕ}
use lib.IntN.{ℤ}
use mir.Facts.{to_z-of_z}
use Rattle.fieldbook.specs.Shot.{query}
use Rattle.fieldbook.specs.declared.Query.{Query}
use Rattle.pointing.specs.Pointing.{pointing_values, MarkReduced, pointing}
use Rattle.refusal.specs.declared.Refusal.{Refusal}
use Rattle.capi.specs.Interface.{numbers}
use Rattle.capi.proofs.pointings.fieldbook_pointing.Goals.{After-pointing}
use Rattle.capi.proofs.pointings.fieldbook_pointing.Goals as goal

-- the values of the book's own answer are the pointing's
abbrev IsPointing : Query → ℤ → Result ℕ Refusal → Type 0
IsPointing x angle m = (pointing_values m ≡ pointing x angle) × MarkReduced (pointing_values m)

module _ (c : After-pointing) where
  abbrev x : Query
  x =
      let a = c.args in
      query
      (numbers a.year a.month a.day a.hour a.minute a.millisecond a.dut1 a.latitude a.longitude a.body a.delta_t)
      a.options

  values_of : (m : Result ℕ Refusal) → c.pointing.result ≡ m → IsPointing x c.args.angle m
  values_of m e =
      let f = c.ranges in
      let is = c.pointing.ensures in
      subst (IsPointing x c.args.angle) e
      (simp (
        c.query_with.ensures,
        to_z-of_z,
        f.year,
        f.month,
        f.day,
        f.hour,
        f.minute,
        f.millisecond,
        f.dut1,
        f.latitude,
        f.longitude,
        f.body,
        f.delta_t,
        f.angle,
      ) at is)

pub returns-in-Ok : goal.returns-in-Ok
returns-in-Ok c = let d = c.before in values_of d _ c.in-Ok.is

pub returns-in-Err : goal.returns-in-Err
returns-in-Err c = let d = c.before.before in rw c.from.ensures.0 (values_of d _ c.in-Err.is)
