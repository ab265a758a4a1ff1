-- The epochs of every accepted instant lie in the span, from the definitions alone: a date of the years accepted has its D between those of the first
-- and the last day, a time of day its millisecond, DUT1 its 900 ms, and ΔT its 120,000.
use mathlib.Core.Path.{◌≡◌, refl, sym, ap, subst}
use mathlib.Core.Bool.{Bool, true, false, cond, ◌&&◌, true≢false}
use Prim.Native.Nat.{ℕ, suc, ◌+◌, ◌-◌, ◌*◌, ◌≤◌}
use native.Mathlib.Omega.{arith}
use lib.Dec.{eqb}
use lib.IntN.{ℤ, pos, neg_ℤ, nat_abs, ◌+ℤ◌, ◌-ℤ◌}
use lib.ListN.{get_or, take}
use lib.Signed.{◌≤ℤ◌}
use mir.Syntax.{w64}
use mir.Val.{SFits}
use Rattle.exact.specs.Range.{between}
use Rattle.exact.proofs.Choice.{was-true}
use Rattle.exact.proofs.Differences.{split, zs}
use Rattle.exact.proofs.Machine.{and-true, between-low, between-high, between-nat}
use Rattle.epoch.specs.Sizes.{Span, InSpan}
use Rattle.calendar.specs.Date.{leap_year, months, total, month_length, month_days, day_count, is_date}
use Rattle.calendar.specs.Time.{leap_second_day, last_millisecond, is_time, day_millisecond, is_dut1, is_delta_t, since1900, instant, InstantValues, accepted, refused, instant_of}
use Rattle.calendar.specs.Sizes.{UniversalSpan}
use Rattle.calendar.specs.declared.CivilTime.{CivilTime}
use Rattle.calendar.specs.declared.Epochs.{Epochs}
use Rattle.calendar.proofs.Count.{upto_le, in-range}

-- ---- three tests in order, of which the code tells the first two together
pub all-three : (a b x : Bool) → (a && b) ≡ true → x ≡ (a && (b && x))
all-three true true x e = refl
all-three true false x e = absurd (true≢false (sym e))
all-three false b x e = absurd (true≢false (sym e))

pub not-all : (a b x : Bool) → (a && b) ≡ false → false ≡ (a && (b && x))
not-all true true x e = absurd (true≢false e)
not-all true false x e = refl
not-all false b x e = refl

-- ---- the eight numbers as the machine holds them
pub record Fit (t : CivilTime) : Type 0 where
  pub year : SFits w64 t.year
  pub month : SFits w64 t.month
  pub day : SFits w64 t.day
  pub hour : SFits w64 t.hour
  pub minute : SFits w64 t.minute
  pub millisecond : SFits w64 t.millisecond
  pub dut1 : SFits w64 t.dut1
  pub delta_t : SFits w64 t.delta_t

-- ---- the year, the month and D
pub month-range : (y m d : ℤ) → is_date y m d ≡ true → ((1976 ≤ nat_abs y) × (nat_abs y ≤ 2049)) × (1 ≤ nat_abs m) × (nat_abs m ≤ 12)
unfolding is_date
month-range y m d e =
    let p = and-true (between (pos 1976) y (pos 2049)) _ e in
    let year = between-nat 1976 2049 y p.0 in
    let month = between-nat 1 12 m (and-true (between (pos 1) m (pos 12)) _ p.1).0 in
    ((year.1, year.2), month.1, month.2)

pub date-range : (y m d : ℤ) → is_date y m d ≡ true
    → (27_759 ≤ day_count (nat_abs y) (nat_abs m) (nat_abs d)) × (day_count (nat_abs y) (nat_abs m) (nat_abs d) ≤ 54_787)
unfolding is_date day_count month_days month_length
date-range y m d e =
    let r = and-true (between (pos 1) m (pos 12)) _ (and-true (between (pos 1976) y (pos 2049)) _ e).1 in
    let l = months (leap_year (nat_abs y)) in
    let day = between-nat 1 (get_or l (nat_abs m - 1) 0) d r.1 in
    let year = (month-range y m d e).0 in
    in-range (nat_abs y) (total (take (nat_abs m - 1) l)) (nat_abs d) year.0 year.1 day.1 (omega (arith, day.2, upto_le l (nat_abs m - 1)))

-- ---- the millisecond of the day
last-le : (month day hour minute : ℕ) → last_millisecond month day hour minute ≤ 60_999
unfolding last_millisecond
last-le month day hour minute = either (eqb hour 23 && (eqb minute 59 && leap_second_day month day))
  where
    either : (b : Bool) → cond b 60_999 59_999 ≤ 60_999
    either true = omega arith
    either false = omega arith

pub time-range : (month day hour minute ms : ℤ) → is_time month day hour minute ms ≡ true → day_millisecond hour minute ms ≤ 86_400_999
unfolding is_time day_millisecond
time-range month day hour minute ms e =
    let p = and-true (between (pos 0) hour (pos 23)) _ e in
    let r = and-true (between (pos 0) minute (pos 59)) _ p.1 in
    let h = between-nat 0 23 hour p.0 in
    let m = between-nat 0 59 minute r.0 in
    let last = last_millisecond (nat_abs month) (nat_abs day) (nat_abs hour) (nat_abs minute) in
    let s = between-nat 0 last ms r.1 in
    omega (arith, h.2, m.2, s.2, last-le (nat_abs month) (nat_abs day) (nat_abs hour) (nat_abs minute))

-- ---- N
pub dut1-le : (z : ℤ) → is_dut1 z ≡ true → nat_abs z ≤ 900
unfolding is_dut1
dut1-le z e = go z (between-low _ _ _ e) (between-high _ _ _ e)
  where
    go : (z : ℤ) → neg_ℤ (pos 900) ≤ℤ z → z ≤ℤ pos 900 → nat_abs z ≤ 900
    go z = rw (split z) (simp zs (omega arith))

-- w is the sum of D's and the day's milliseconds, from which half a day is taken and to which DUT1 is added; x is the days' part of it
abbrev pub Sizes : ℤ → ℤ → ℕ → ℤ → Type 0
Sizes w x ms dut1 =
    SFits w64 w × SFits w64 (w -ℤ pos 43_200_000) × SFits w64 (w -ℤ pos 43_200_000 +ℤ dut1)
    × (w -ℤ pos 43_200_000 +ℤ dut1 ≡ x -ℤ pos 43_200_000 +ℤ pos ms +ℤ dut1) × UniversalSpan (w -ℤ pos 43_200_000 +ℤ dut1)

pub sizes : (day ms : ℕ) (dut1 : ℤ) → 27_759 ≤ day → day ≤ 54_787 → ms ≤ 86_400_999 → nat_abs dut1 ≤ 900
    → Sizes (pos (86_400_000 * day + ms)) (pos (86_400_000 * day)) ms dut1
sizes day ms dut1 = go (pos (86_400_000 * day + ms)) (pos (86_400_000 * day)) refl refl
  where
    go : (w x : ℤ) → w ≡ pos (86_400_000 * day + ms) → x ≡ pos (86_400_000 * day)
        → 27_759 ≤ day → day ≤ 54_787 → ms ≤ 86_400_999 → nat_abs dut1 ≤ 900 → Sizes w x ms dut1
    go w x = rw (split w, split x, split dut1) (simp zs (omega arith))

-- ---- the epochs
-- N itself lies in the span, and N with ΔT
pub epochs-span : (n delta_t : ℤ) → UniversalSpan n → is_delta_t delta_t ≡ true → Span n × Span (n +ℤ delta_t)
unfolding is_delta_t
epochs-span n delta_t s e = let r = between-nat 0 120_000 delta_t e in go n delta_t s r.0 r.2
  where
    go : (n d : ℤ) → UniversalSpan n → d ≡ pos (nat_abs d) → nat_abs d ≤ 120_000 → Span n × Span (n +ℤ d)
    go n d = rw (split n, split d) (simp zs (omega arith))

-- ---- an accepted instant
pub accepted-in-span : (t : CivilTime) (es : Epochs) → instant_of t ≡ accepted es → InSpan es.universal × InSpan es.ephemeris
unfolding instant_of
accepted-in-span t es e =
    let date = was-true (is_date t.year t.month t.day) _ (refused 2) (accepted es) (no 1) (sym e) in
    let time = was-true (is_time t.month t.day t.hour t.minute t.millisecond) _ (refused 3) (accepted es) (no 2) date.1 in
    let dut1 = was-true (is_dut1 t.dut1) _ (refused 4) (accepted es) (no 3) time.1 in
    let d = date-range t.year t.month t.day date.0 in
    let m = time-range t.month t.day t.hour t.minute t.millisecond time.0 in
    let late = was-true (is_delta_t t.delta_t) _ (refused 17) (accepted es) (no 16) dut1.1 in
    let s = epochs-span (instant t) t.delta_t (within t d m (dut1-le t.dut1 dut1.0)) late.0 in
    subst (λ (es : Epochs). InSpan es.universal × InSpan es.ephemeris) (ap (λ (a : InstantValues). a.epochs) (sym late.1))
    (record { span = s.0; millionths = refl }, record { span = s.1; millionths = refl })
  where
    no : (k : ℕ) → accepted es ≡ refused (suc k) → ⊥
    no k e = let z : 0 ≡ suc k = ap (λ (a : InstantValues). a.refusal) e in omega arith

    within : (t : CivilTime) → (27_759 ≤ day_count (nat_abs t.year) (nat_abs t.month) (nat_abs t.day)) × (day_count (nat_abs t.year) (nat_abs t.month) (nat_abs t.day) ≤ 54_787)
        → day_millisecond t.hour t.minute t.millisecond ≤ 86_400_999 → nat_abs t.dut1 ≤ 900 → UniversalSpan (instant t)
    within t d m u = unfold instant since1900 in let s = sizes _ _ t.dut1 d.0 d.1 m u in subst UniversalSpan s.3 s.4
