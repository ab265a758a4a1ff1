use mathlib.Core.Path.{◌≡◌, refl, sym, ap, ◌∙◌}
use mathlib.Core.List.{List, ◌++◌, append-nil}
use Prim.Native.Nat.{ℕ, ◌+◌, ◌-◌, ◌%◌, ◌<◌, ◌≤◌}
use native.Mathlib.Omega.{arith}
use lib.ListN.{length, take, drop, set, length-set}
use Rattle.lines.proofs.Parts.{tail-part}
use Rattle.lines.specs.Appending.{decimal_text}
use Rattle.lines.proofs.Appending.{length_more, some-digit, digit-before, first-digit, at-most-twenty}
use Rattle.lines.proofs.output.Output.append_decimal.Goals as goal

pub loop-m-init : goal.loop-m-init
loop-m-init c = (at-most-twenty c.args.n c.ranges.n.fits, omega arith, refl, sym (append-nil (decimal_text c.args.n)))

-- there is room for a digit more
pub overflow_sub-from : goal.overflow_sub-from
overflow_sub-from c = let d = some-digit c.loop-m.m in omega (arith, c.loop-m.invariant.0)

pub loop-m-preserved : goal.loop-m-preserved
loop-m-preserved c =
    let i = c.loop-m.invariant in
    let d = some-digit c.loop-m.m in
    let e = length_more c.loop-m.m (omega arith) in (
      omega (arith, i.0),
      omega (arith, i.1),
      simp length-set i.2,
      i.3 ∙ digit-before c.loop-m.text c.loop-m.from c.loop-m.m c.last_digit.result c.last_digit.ensures (omega (arith, i.0)) (omega (arith, i.1, i.2)) (omega arith),
    )

pub overflow_sub-from-2 : goal.overflow_sub-from-2
overflow_sub-from-2 c = let d = some-digit c.loop-m.m in omega (arith, c.loop-m.invariant.0)

-- the digits that are stored are the number's
part : (n m from d : ℕ) (text : List ℕ) → length (decimal_text m) ≤ from → from ≤ 20 → length text ≡ 20 → decimal_text n ≡ decimal_text m ++ drop from text
    → d ≡ 48 + m % 10 → m < 10 → take (20 - (from - 1)) (drop (from - 1) (set text (from - 1) d)) ≡ decimal_text n
part n m from d text h i l e g k =
    let some = some-digit m in
    let stored = set text (from - 1) d in
    let full : length stored ≡ 20 = simp length-set l in
    ap (λ (j : ℕ). take (j - (from - 1)) (drop (from - 1) stored)) (sym full) ∙ tail-part (from - 1) stored
    ∙ sym (e ∙ first-digit text from m d g (omega (arith, h)) (omega (arith, i, l)) k)

pub append-requires : goal.append-requires
append-requires c =
    let i = c.loop-m.invariant in
    rw (part c.args.n c.loop-m.m c.loop-m.from c.last_digit-2.result c.loop-m.text i.0 i.1 i.2 i.3 c.last_digit-2.ensures c.loop-m-test.false) c.requires

pub returns : goal.returns
returns c =
    let i = c.loop-m.invariant in
    rw (part c.args.n c.loop-m.m c.loop-m.from c.last_digit-2.result c.loop-m.text i.0 i.1 i.2 i.3 c.last_digit-2.ensures c.loop-m-test.false) at c.append.ensures
