use Rattle.std.proofs.Common.{◌≡◌, refl, ◌++◌, suc, length, take, drop, sym, ap, ◌∙◌, add-one, arith}
use Rattle.std.proofs.Math.Seq.{take_all}
use Rattle.lines.specs.Bytes.{index_of}
use Rattle.lines.proofs.Appending.{append-both}
use Rattle.lines.proofs.Words as Words
use Rattle.replies.specs.Answers.{reply}
use Rattle.stream.specs.Feeding.{held}
use Rattle.stream.proofs.Pieces.{one_line, the_rest}
use Rattle.stream.proofs.State.feed.Goals as goal

pub returns-in_default : goal.returns-in_default
returns-in_default c =
    let m = c.loop-newline.invariant.made in
    let s = c.loop-newline.self in
    let l = c.loop-newline.rest.now in
    let all : c.find.result ≡ length l = omega (arith, c.split_at.ensures.back_len, c.in_default.ensures.cases) in
    let piece = c.split_at.ensures.front ∙ take_all c.find.result l (omega arith) in
    the_rest c.args.protocol c.args.self.now s c.args.chunk.now l m.0 m.2 (record { card = s.card; kept = c.keep.new.self }) c.args.out.now c.loop-newline.out m.1 (omega (arith, c.find.ensures.0))
    refl (rw piece at c.keep.ensures)

pub loop-newline-preserved : goal.loop-newline-preserved
loop-newline-preserved c =
    let i = c.loop-newline.invariant in
    let s = c.loop-newline.self in
    let l = c.loop-newline.rest.now in
    let q = c.in-Some.ensures.cases in
    let b = c.split_at.ensures in
    let r = c.end_line.ensures in
    let e = Words.behind l c.in-Some.next.now c.in-Some._newline.now c.find.result (sym b.back ∙ q.0) in
    let next : c.in-Some.next.now ≡ drop (suc (index_of 10 l)) l = e ∙ ap (λ k. drop k l) (add-one c.find.result ∙ ap suc c.find.ensures.0) in
    let card = rw (b.front, c.find.ensures.0) at r.card_value in
    let appends = rw (b.front, c.find.ensures.0) at r.appends in
    record {
      room = omega (arith, i.room, r.end_bound, r.appends.room, q.1, b.back_len);
      made = (
        i.made.0 ++ reply c.args.protocol s.card (held s.kept ++ take (index_of 10 l) l),
        append-both i.made.1 appends,
        rw next
            (one_line c.args.protocol c.args.self.now s c.args.chunk.now l i.made.0 i.made.2 c.end_line.new.self (omega (arith, q.1, b.back_len, c.find.ensures.0)) card r.kept_value),
      );
    }
