use Rattle.std.proofs.Common.{◌≡◌, sym, ap, ◌∙◌, ℕ, ◌+◌, ◌-◌, ◌≤◌, min, List, ◌++◌, length, take, arith, rules}
use Rattle.std.proofs.lemmas.List.{take_min}
use Rattle.std.proofs.lemmas.Slice.{take-put_mid}
use lib.Seq.{length-take-le}
use Rattle.stream.specs.Feeding.{kept_length, held}
use Rattle.stream.proofs.Keeping.{keep-more}
use Rattle.stream.proofs.Kept.keep.Goals as goal

pub returns : goal.returns
returns c =
    let b = c.args.self.now.bytes in
    let p = c.args.piece.now in
    let n = c.min-len.result in
    let m = c.min.result in
    let full : length b ≡ 260 = search rules in
    let front : take n b ≡ held c.args.self.now = ap (λ (k : ℕ). take k b) (c.min-len.ensures ∙ ap (min c.args.self.now.len) (sym full)) ∙ take_min c.args.self.now.len b in
    let more : n + m - n ≡ m = omega arith in
    let copied : c.copy_from_slice.new.self ≡ take m p = rw more at c.copy_from_slice.ensures.after in
    let fits : m ≤ length p = omega (arith, c.min.ensures) in
    let count : length c.copy_from_slice.new.self ≡ m = ap length copied ∙ length-take-le m p fits in
    let inside : n ≤ length b = omega (arith, c.min-len.ensures) in
    take-put_mid n (n + m - n) b c.copy_from_slice.new.self (n + m) (omega arith) inside
    ∙ ap (λ (l : List ℕ). take n b ++ l) copied
    ∙ keep-more (take n b) p (260 - n) m (let l = length-take-le n b inside in omega (arith, c.min-len.ensures)) c.min.ensures
    ∙ ap (λ (l : List ℕ). take kept_length (l ++ p)) front
