use Rattle.std.proofs.Common.{◌<◌, ◌≤◌, length, sym, ◌∙◌, arith}
use lib.ListN.{length-take}
use mir.Facts.{to_z-of_z}
use mir.Syntax.{w64}
use mir.Val.{SFits}
use borrow.Author.Rules.{rules}
use Rattle.lines.specs.Numerals.{row_length, listed}
use Rattle.lines.proofs.Words.{no_number, no_room, last-number, more_numbers, behind}
use Rattle.lines.proofs.numbers_of.Goals as goal

pub returns-in_default-clause-numbers : goal.returns-in_default-clause-numbers
returns-in_default-clause-numbers c =
    c.new.ensures
    ∙ no_number (listed c.loop-n.row) c.args.most c.loop-n.rest.now (rw (c.split_at.ensures.front, c.find.ensures.0) at c.in_default.ensures)
    ∙ c.loop-n.invariant.rest

pub returns-then-row-ge-ROW-clause-numbers : goal.returns-then-row-ge-ROW-clause-numbers
returns-then-row-ge-ROW-clause-numbers c =
    let h : row_length ≤ length (listed c.loop-n.row) = rw (length-take c.loop-n.row.count c.loop-n.row.numbers) (omega (arith, c.loop-n.invariant.full, c.if-row-ge-ROW.true)) in
    c.new-then-row-ge-ROW.ensures
    ∙ no_room (listed c.loop-n.row) c.args.most c.loop-n.rest.now c.in-Some.n (rw (c.split_at.ensures.front, c.find.ensures.0) at c.in-Some.ensures) h
    ∙ c.loop-n.invariant.rest

pub returns-in_default-split_first-clause-numbers : goal.returns-in_default-split_first-clause-numbers
returns-in_default-split_first-clause-numbers c =
    let f : SFits w64 c.in-Some.n = search rules in
    let h : length (listed c.loop-n.row) < row_length = rw (length-take c.loop-n.row.count c.loop-n.row.numbers) (omega (arith, c.if-row-ge-ROW.false)) in
    (simp to_z-of_z at c.push.ensures.numbers)
    ∙ last-number (listed c.loop-n.row) c.args.most c.loop-n.rest.now c.in-Some.n (rw (c.split_at.ensures.front, c.find.ensures.0) at c.in-Some.ensures) h
    (omega (arith, c.find.ensures.0, c.split_at.ensures.back_len, c.in_default-split_first.ensures.cases))
    ∙ c.loop-n.invariant.rest

pub loop-n-preserved : goal.loop-n-preserved
loop-n-preserved c =
    let l = c.loop-n.rest.now in
    let f : SFits w64 c.in-Some.n = search rules in
    let h : length (listed c.loop-n.row) < row_length = rw (length-take c.loop-n.row.count c.loop-n.row.numbers) (omega (arith, c.if-row-ge-ROW.false)) in
    let q = c.in-Some-split_first.ensures.cases in
    let e = behind l c.in-Some-split_first.next.now c.in-Some-split_first._space.now c.find.result (sym c.split_at.ensures.back ∙ q.0) in
    record {
      full = c.push.ensures.room ∙ c.loop-n.invariant.full;
      rest =
          rw (c.push.ensures.numbers, to_z-of_z f, e, c.find.ensures.0)
          (more_numbers (listed c.loop-n.row) c.args.most l c.in-Some.n (rw (c.split_at.ensures.front, c.find.ensures.0) at c.in-Some.ensures) h
          (omega (arith, c.find.ensures.0, c.split_at.ensures.back_len, q.1))
          ∙ c.loop-n.invariant.rest);
    }
