-- The size of N and q at every accepted instant.
use mathlib.Core.Path.{refl, subst⁻¹}
use Prim.Native.Nat.{◌≤◌, ◌<◌, ◌^◌}
use native.Mathlib.Omega.{arith}
use lib.Dec.{lit<}
use lib.IntN.{ℤ, pos, nat_abs, ◌*ℤ◌}
use lib.Signed.{◌≤ℤ◌}
use mir.Syntax.{w64}
use mir.Val.{SFits}
use Rattle.exact.specs.Century.{century}
use Rattle.exact.specs.Division.{floor_div}
use Rattle.exact.proofs.Differences.{split, zs}
use Rattle.exact.proofs.Division.{floor-mono}
use Rattle.exact.proofs.Machine.{fits_lt, fits_le}
use Rattle.epoch.specs.Epoch.{Epoch, millionths, first_millionth, last_millionth}
use Rattle.epoch.specs.Sizes.{Span, InSpan}

pub span-size : (n : ℤ) → Span n → nat_abs n < 2 ^ 43
span-size n = rw (split n) (simp zs (omega arith))

pub span-natural : (n : ℤ) → Span n → pos 0 ≤ℤ n
span-natural n = rw (split n) (simp zs (omega arith))

-- q of an accepted instant
abbrev pub Millionths : ℤ → Type 0
Millionths q = (pos first_millionth ≤ℤ q) × (q ≤ℤ pos last_millionth)

pub millionths-range : (n : ℤ) → Span n → Millionths (millionths n)
unfolding millionths floor_div
millionths-range n h =
    let s = scaled n h in (
      floor-mono (pos 2_398_334_399_100_000_000) (pos 1_000_000 *ℤ n) century (lit< tt) s.0,
      floor-mono (pos 1_000_000 *ℤ n) (pos 4_733_640_121_899_000_000) century (lit< tt) s.1,
    )
  where
    scaled : (n : ℤ) → Span n → (pos 2_398_334_399_100_000_000 ≤ℤ (pos 1_000_000 *ℤ n)) × ((pos 1_000_000 *ℤ n) ≤ℤ pos 4_733_640_121_899_000_000)
    scaled n = rw (split n) (simp zs (omega arith))

module _ {e : Epoch} (h : InSpan e) where
  pub n-size : nat_abs e.n < 2 ^ 43
  n-size = span-size e.n h.span

  pub n-natural : pos 0 ≤ℤ e.n
  n-natural = span-natural e.n h.span

  pub q-range : Millionths e.q
  q-range = subst⁻¹ Millionths h.millionths (millionths-range e.n h.span)

  pub q-size : nat_abs e.q ≤ last_millionth
  q-size = go e.q q-range
    where
      go : (z : ℤ) → Millionths z → nat_abs z ≤ last_millionth
      go z = rw (split z) (simp zs (omega arith))

  pub n-fits : SFits w64 e.n
  n-fits = fits_lt (2 ^ 43) e.n n-size refl

  pub q-fits : SFits w64 e.q
  q-fits = fits_le last_millionth e.q q-size refl
