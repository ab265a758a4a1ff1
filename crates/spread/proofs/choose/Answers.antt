-- Each test is one of `choice`'s.
use mathlib.Core.Path.{◌≡◌, refl, sym, ap₂, ◌∙◌, subst}
use mathlib.Core.Bool.{Bool, true, false, cond, ◌&&◌}
use mathlib.Core.List.{List}
use lib.IntN.{ℤ}
use lib.Signed.{lt_z}
use mir.Facts.{to_z-of_z}
use mir.Syntax.{w64}
use mir.Val.{SFits}
use borrow.Author.Rules.{rules}
use Rattle.std.proofs.Common.{Option, Some, None, Result, Err}
use Rattle.std.specs.Option.{ok_or}
use Rattle.std.proofs.lemmas.Result.{err_from_is_err_and}
use Rattle.refusal.specs.declared.Refusal.{Refusal}
use Rattle.refusal.specs.declared.Refusal.TheVariants.{NoAngle}
use Rattle.spread.specs.Spread.{is_list, are_angles, spread, choice, choice_values, whole, refused}
use Rattle.spread.specs.Parts.{spread_of}
use Rattle.spread.specs.declared.Side.{Side}
use Rattle.spread.proofs.Tests.{first-fails, second-fails}
use Rattle.spread.proofs.choose.Goals.{then-not-is_list-via-then-not-is_list, then-not-is_list-via-else-not-is_list+then-not-is_list-2}
use Rattle.spread.proofs.choose.Goals as goal

-- ---- what an answer of `spread_of` says
abbrev Says : List ℤ → Option ℤ → Type 0
Says l (Some z) = (are_angles l ≡ true) × (z ≡ spread l)
Says l None = are_angles l ≡ false

says : (l : List ℤ) (x : Option ℤ) → x ≡ spread_of l → Says l x
says l x e = subst (Says l) (sym e) (by (are_angles l) refl)
  where
    by : (t : Bool) → are_angles l ≡ t → Says l (cond t (Some (spread l)) None)
    by true p = (p, refl)
    by false p = p

-- ---- the lists
pub returns-then-not-is_list : goal.returns-then-not-is_list
unfolding choice
returns-then-not-is_list c =
    let fails : (is_list c.args.first.now && is_list c.args.second.now) ≡ false =
    elim c.then-not-is_list.branch [
      | then-not-is_list-via-then-not-is_list w ↦ first-fails _ _ (sym c.is_list.ensures ∙ w.if-not-is_list.true)
      | then-not-is_list-via-else-not-is_list+then-not-is_list-2 w ↦ second-fails (is_list c.args.first.now) _ (sym w.is_list-else-not-is_list.ensures ∙ w.if-not-is_list-2.true)
    ] in
    simp fails

-- ---- a result that is no angle: what `?` hands on of an answer of `spread_of`
refused-fifteen : (a b : List ℤ) (o : Option ℤ) (r : Result Side Refusal) (x y : Refusal) → r ≡ Err x → x ≡ y → ok_or o NoAngle ≡ Err y → o ≡ None
    → choice_values a b r ≡ refused 15
refused-fifteen a b o r x y p q e f = let g : y ≡ NoAngle = cc in rw (p, q, g)

pub returns-in_err-a : goal.returns-in_err-a
unfolding choice
returns-in_err-a c =
    let p = sym c.is_list.ensures ∙ c.if-not-is_list.false in
    let q = sym c.is_list-else-not-is_list.ensures ∙ c.if-not-is_list-2.false in
    let e = err_from_is_err_and c.from_residual.result c.from_residual.ensures.1 in
    let v = c.in_err-a.ensures in
    refused-fifteen _ _ _ _ _ _ e.1 e.2 (sym v.value) v.ok_part ∙ simp (p, q, says c.args.first.now None (sym v.ok_part ∙ c.spread_of.ensures))

pub returns-in_err-b : goal.returns-in_err-b
unfolding choice
returns-in_err-b c =
    let p = sym c.is_list.ensures ∙ c.if-not-is_list.false in
    let q = sym c.is_list-else-not-is_list.ensures ∙ c.if-not-is_list-2.false in
    let a = says c.args.first.now (Some c.in_ok-a.a) (sym c.in_ok-a.ensures.ok_part ∙ c.spread_of.ensures) in
    let e = err_from_is_err_and c.from_residual-in_err-b.result c.from_residual-in_err-b.ensures.1 in
    let v = c.in_err-b.ensures in
    refused-fifteen _ _ _ _ _ _ e.1 e.2 (sym v.value) v.ok_part ∙ simp (p, q, a.0, says c.args.second.now None (sym v.ok_part ∙ c.spread_of-2.ensures))

-- ---- the smaller of the two spreads
by-test : (first second : List ℤ) (t : Bool) → is_list first ≡ true → is_list second ≡ true → (a b : ℤ) → Says first (Some a) → Says second (Some b)
    → lt_z b a ≡ t → cond t (whole 2 second) (whole 1 first) ≡ choice first second
unfolding choice
by-test first second t p q a b x y e = simp (p, q, x.0, y.0, sym (ap₂ lt_z y.1 x.1) ∙ e)

pub returns-then-b-a : goal.returns-then-b-a
returns-then-b-a c =
    let p = sym c.is_list.ensures ∙ c.if-not-is_list.false in
    let q = sym c.is_list-else-not-is_list.ensures ∙ c.if-not-is_list-2.false in
    let a = says c.args.first.now (Some c.in_ok-a.a) (sym c.in_ok-a.ensures.ok_part ∙ c.spread_of.ensures) in
    let b = says c.args.second.now (Some c.in_ok-b.b) (sym c.in_ok-b.ensures.ok_part ∙ c.spread_of-2.ensures) in
    let f : SFits w64 c.in_ok-a.a = search rules in
    let g : SFits w64 c.in_ok-b.b = search rules in
    by-test _ _ true p q _ _ a b (simp (to_z-of_z, f, g) at c.if-b-a.true)

pub returns-else-b-a : goal.returns-else-b-a
returns-else-b-a c =
    let p = sym c.is_list.ensures ∙ c.if-not-is_list.false in
    let q = sym c.is_list-else-not-is_list.ensures ∙ c.if-not-is_list-2.false in
    let a = says c.args.first.now (Some c.in_ok-a.a) (sym c.in_ok-a.ensures.ok_part ∙ c.spread_of.ensures) in
    let b = says c.args.second.now (Some c.in_ok-b.b) (sym c.in_ok-b.ensures.ok_part ∙ c.spread_of-2.ensures) in
    let f : SFits w64 c.in_ok-a.a = search rules in
    let g : SFits w64 c.in_ok-b.b = search rules in
    by-test _ _ false p q _ _ a b (simp (to_z-of_z, f, g) at c.if-b-a.false)
