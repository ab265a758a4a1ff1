use Rattle.std.proofs.Common.{◌≤◌, length, ◌∙◌, arith, rules, tests}
use Rattle.lines.proofs.DigitScan.{no-digit, digit, digits-end, digit-more, at-most-eighteen, right-length}
use Rattle.lines.proofs.digits_of.Goals as goal

pub returns-then-not-is_ascii_digit-clause-value : goal.returns-then-not-is_ascii_digit-clause-value
returns-then-not-is_ascii_digit-clause-value c =
    let l = c.args.s.now in
    no-digit l c.loop-c.c-index c.loop-c-test.true c.loop-c.n c.if-not-is_ascii_digit.ensures.cases
    ∙ c.loop-c.invariant.rest ∙ right-length c.args.most l (omega arith) c.if-most-s.false

pub overflow_mul-n : goal.overflow_mul-n
overflow_mul-n c = let p = at-most-eighteen c.loop-c.n c.loop-c.c-index c.loop-c.invariant.below (omega (arith, c.requires)) in omega arith

pub overflow_add-n : goal.overflow_add-n
overflow_add-n c =
    let d = c.if-not-is_ascii_digit.ensures.cases in
    let p = at-most-eighteen c.loop-c.n c.loop-c.c-index c.loop-c.invariant.below (omega (arith, c.requires)) in
    omega arith

pub loop-c-preserved : goal.loop-c-preserved
loop-c-preserved c =
    let d = c.if-not-is_ascii_digit.ensures.cases in
    record {
      below = digit-more c.loop-c.n c.from.result c.loop-c.c-index c.loop-c.invariant.below (omega arith);
      rest = rw c.from.ensures (digit c.args.s.now c.loop-c.c-index c.loop-c-test.true c.loop-c.n (omega arith) (omega arith) ∙ c.loop-c.invariant.rest);
    }

pub returns-clause-value : goal.returns-clause-value
returns-clause-value c =
    let some : 1 ≤ length c.args.s.now = search (rules, tests) in
    digits-end c.args.s.now c.loop-c.c-index c.loop-c.n c.loop-c-test.false
    ∙ c.loop-c.invariant.rest ∙ right-length c.args.most c.args.s.now some c.if-most-s.false

pub returns-clause-below : goal.returns-clause-below
returns-clause-below c = at-most-eighteen c.loop-c.n c.loop-c.c-index c.loop-c.invariant.below (omega (arith, c.requires))
