use Rattle.std.proofs.Common.{◌+◌, ◌<◌, ◌≤◌, length, arith}
use Rattle.std.proofs.Math.Nat.{mod-eq_of_lt}
use Rattle.digits.proofs.Decimal.{digits-one, length-one, put_last}
use Rattle.digits.proofs.Lists.{put_one}
use Rattle.digits.proofs.+write_digits.Goals as goal

pub returns-then-n-lt10-clause-buf_after : goal.returns-then-n-lt10-clause-buf_after
returns-then-n-lt10-clause-buf_after t c =
    let h : c.args.n < 10 = omega arith in
    let e = length-one c.args.n h in
    let r : 1 ≤ length c.args.buf.now = omega (arith, c.requires) in
    rw (c.last_digit.ensures, mod-eq_of_lt h, digits-one c.args.n h) (put_one c.args.buf.now (48 + c.args.n) r)

pub returns-clause-buf_after : goal.returns-clause-buf_after
returns-clause-buf_after t c =
    let k = c.write_digits-k.ensures in
    rw c.last_digit-2.ensures
    (put_last c.args.n c.write_digits-k.result c.args.buf.now c.write_digits-k.new.buf (omega arith) c.requires k.value k.buf_after)
