-- The number at an index of the table is the entry of the rule.
use mathlib.Core.Path.{◌≡◌, ap, ◌∙◌}
use mathlib.Core.List.{List}
use Prim.Native.Nat.{ℕ}
use lib.ListN.{get_or}
use Rattle.sine_table.specs.Table.{entry_at}
use Rattle.sine_table.proofs.TableRule.{entry-at, entry-le}
use Rattle.sine_table.proofs.entry_at.Goals as goal

pub returns : goal.returns
returns c =
    let n = c.args.n in
    let e : c.from.result ≡ entry_at n = c.from.ensures ∙ ap (λ (l : List ℕ). get_or l n 0) c.table.ensures ∙ entry-at n c.requires in
    (e, rw e (entry-le n c.requires))
