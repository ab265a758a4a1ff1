-- Each call gives what the definition names.
use mathlib.Core.Path.{◌≡◌, refl, ap, ◌∙◌}
use Prim.Native.Nat.{ℕ}
use lib.IntN.{pos}
use mir.Facts.{to_z-of_z}
use Rattle.exact.specs.Division.{floor_div, nearest_div}
use Rattle.exact.specs.Reduction.{short_way}
use Rattle.epoch.specs.Epoch.{Epoch}
use Rattle.epoch.proofs.Sizes.{q-size, q-fits}
use Rattle.sun.specs.Longitude.{aberration, apparent_longitude}
use Rattle.sun.specs.ShortCost.{short_cost}
use Rattle.short_series.specs.Editions.{comparison_values, compared_at}
use Rattle.short_series.proofs.compared_at.Goals as goal

-- the values by themselves
made : (e : Epoch) (short full apart bound : ℕ) → short ≡ apparent_longitude (pos 1) aberration e → full ≡ apparent_longitude (pos 2) aberration e
    → apart ≡ short_way short full → bound ≡ short_cost e.q
    → comparison_values (record { short = short; full = full; apart = apart; bound = bound }) ≡ compared_at e
unfolding compared_at
made e short full apart bound s f a b = rw (a, b, s, f) refl

pub short_cost-requires : goal.short_cost-requires
short_cost-requires c = simp (to_z-of_z, q-fits c.e.invariant) (q-size c.e.invariant)

pub returns : goal.returns
unfolding aberration nearest_div floor_div
returns c =
    let l = c.both_longitudes-s.ensures in
    let cost = simp (to_z-of_z, q-fits c.e.invariant) at c.short_cost.ensures in
    made c.args.e _ _ _ _ l.0.value l.1.value c.short_way.ensures (cost ∙ ap (λ (e : Epoch). short_cost e.q) c.e.view_is)
