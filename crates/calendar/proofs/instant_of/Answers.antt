-- Each test is one of `instant_of`'s.
use Rattle.std.proofs.Common.{rules}
use mathlib.Core.Path.{sym, ap, ◌∙◌}
use lib.IntN.{ℤ}
use mir.Facts.{to_z-of_z}
use Rattle.exact.proofs.Machine.{ok-fits}
use Rattle.calendar.specs.Time.{is_dut1, is_delta_t, epochs_of, accepted, instant_of}
use Rattle.calendar.proofs.AcceptedRange.{Fit}
use Rattle.calendar.proofs.instant_of.Goals as goal

pub returns-then-not-is_date : goal.returns-then-not-is_date
unfolding instant_of
returns-then-not-is_date c =
    let f : Fit c.args.t = search rules in
    let date = simp (to_z-of_z, f.year, f.month, f.day) at c.if-not-is_date.ensures in
    simp (sym date)

pub returns-then-not-is_time : goal.returns-then-not-is_time
unfolding instant_of
returns-then-not-is_time c =
    let f : Fit c.args.t = search rules in
    let date = simp (to_z-of_z, f.year, f.month, f.day) at c.if-not-is_date.ensures in
    simp (sym date, sym c.if-not-is_time.ensures)

pub returns-then-not-between : goal.returns-then-not-between
unfolding instant_of is_dut1
returns-then-not-between c =
    let f : Fit c.args.t = search rules in
    let date = simp (to_z-of_z, f.year, f.month, f.day) at c.if-not-is_date.ensures in
    let dut1 = simp (to_z-of_z, f.dut1) at c.if-not-between.ensures in
    simp (sym date, sym c.if-not-is_time.ensures, sym dut1)

pub returns-then-not-between-2 : goal.returns-then-not-between-2
unfolding instant_of is_dut1 is_delta_t
returns-then-not-between-2 c =
    let f : Fit c.args.t = search rules in
    let date = simp (to_z-of_z, f.year, f.month, f.day) at c.if-not-is_date.ensures in
    let dut1 = simp (to_z-of_z, f.dut1) at c.if-not-between.ensures in
    let delta_t = simp (to_z-of_z, f.delta_t) at c.if-not-between-2.ensures in
    simp (sym date, sym c.if-not-is_time.ensures, sym dut1, sym delta_t)

pub instant-requires : goal.instant-requires
unfolding is_dut1
instant-requires c =
    let f : Fit c.args.t = search rules in
    let date = simp (to_z-of_z, f.year, f.month, f.day) at c.if-not-is_date.ensures in
    let dut1 = simp (to_z-of_z, f.dut1) at c.if-not-between.ensures in
    (sym date, sym c.if-not-is_time.ensures, sym dut1)

pub epochs_of-requires : goal.epochs_of-requires
unfolding is_delta_t
epochs_of-requires c =
    let f : Fit c.args.t = search rules in
    let delta_t = simp (to_z-of_z, f.delta_t) at c.if-not-between-2.ensures in
    simp (to_z-of_z, ok-fits c.instant.result c.instant.type_inv, f.delta_t) (c.instant.ensures.1, sym delta_t)

pub returns : goal.returns
unfolding instant_of is_dut1 is_delta_t
returns c =
    let f : Fit c.args.t = search rules in
    let date = simp (to_z-of_z, f.year, f.month, f.day) at c.if-not-is_date.ensures in
    let dut1 = simp (to_z-of_z, f.dut1) at c.if-not-between.ensures in
    let delta_t = simp (to_z-of_z, f.delta_t) at c.if-not-between-2.ensures in
    let e = (simp (to_z-of_z, ok-fits c.instant.result c.instant.type_inv, f.delta_t) at c.epochs_of.ensures)
    ∙ ap (λ (z : ℤ). epochs_of z c.args.t.delta_t) c.instant.ensures.0 in
    simp (sym date, sym c.if-not-is_time.ensures, sym dut1, sym delta_t) (ap accepted e)
