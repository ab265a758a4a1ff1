-- How far two editions can be apart, request 8's law of any two lists of terms: no further than the amplitudes by which the lists differ.
use mathlib.Core.List.{List}
use Prim.Native.Nat.{ℕ, ◌≤◌}
use native.Mathlib.Nat.{le_trans}
use native.Mathlib.Omega.{arith}
use lib.IntN.{ℤ, nat_abs, ◌+ℤ◌, ◌-ℤ◌}
use Rattle.exact.specs.Reduction.{short_way}
use Rattle.exact.proofs.Differences.{split, zs}
use Rattle.exact.proofs.Division.{Within}
use Rattle.exact.proofs.Reduction.{short-way-le}
use Rattle.series.specs.Term.{Term}
use Rattle.series.specs.Sum.{table_sum}
use Rattle.series.specs.Compared.{dropped}
use Rattle.series.proofs.Compared.{table-sums-apart}
use Rattle.frame.specs.Nutation.{dpsi}
use Rattle.sun.specs.Longitude.{mean_longitude, longitude_by}

pub editions-apart : (ts us : List Term) (aberration : ℤ) (arguments : List ℤ) (q : ℤ)
    → short_way (longitude_by ts aberration arguments q) (longitude_by us aberration arguments q) ≤ dropped ts us q
unfolding longitude_by
editions-apart ts us aberration arguments q =
    le_trans (short-way-le _ _)
    (apart (mean_longitude arguments) (table_sum arguments q ts) (table_sum arguments q us) (dpsi arguments q) aberration (dropped ts us q) (table-sums-apart arguments q ts us))
  where
    apart : (l f g p k : ℤ) (n : ℕ) → Within g f n → nat_abs ((l +ℤ f +ℤ p -ℤ k) -ℤ (l +ℤ g +ℤ p -ℤ k)) ≤ n
    apart l f g p k n = rw (split l, split f, split g, split p, split k) (simp zs (omega arith))
