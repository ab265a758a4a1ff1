-- The options are those of the part that the list is cut to.
use mathlib.Core.Path.{ap, ◌∙◌}
use Prim.Native.Nat.{◌-◌}
use native.Mathlib.Omega.{arith}
use lib.ListN.{length, drop, length-drop}
use lib.Seq.{take_all}
use Rattle.fieldbook.specs.Shot.{numbers_of, options_of, query, query_of}
use Rattle.fieldbook.specs.declared.Options.{Options}
use Rattle.fieldbook.proofs.query_of.Goals as goal

pub returns : goal.returns
unfolding query_of
returns c =
    let a = c.args in
    let l = a.list.now in
    let e = length-drop a.options_at l in
    let whole = take_all (length l - a.options_at) (drop a.options_at l) (omega arith) in
    c.query_with.ensures ∙ ap (λ (p : Options). query (numbers_of l) p) (c.options_of.ensures ∙ ap options_of whole)
