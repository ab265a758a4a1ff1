use mathlib.Core.Path.{◌≡◌, subst}
use mathlib.Core.List.{List, [], ◌++◌}
use Prim.Native.Nat.{ℕ, suc, ◌<◌}
use native.Mathlib.Numerals.{add-one}
use native.Mathlib.Omega.{arith}
use lib.IntN.{ℤ, pos, ◌+ℤ◌}
use lib.ListN.{length, get_or, drop, drop_of_length-le}
use mir.Facts.{to_z-of_z}
use mir.Syntax.{w64}
use mir.Val.{SFits, to_z}
use Rattle.exact.proofs.Machine.{ok-fits}
use Rattle.sine.specs.Sine.{Sin}
use Rattle.series.specs.Term.{Term}
use Rattle.series.specs.Sum.{total}
use Rattle.series.specs.Rows.{group_terms, steady_terms}
use Rattle.series.specs.declared.Group.{Group}
use Rattle.series.proofs.Sums.{sum-le}
use Rattle.series.proofs.Loops.{Left, left-none, left-fits, left-next, lights, groups-next}
use Rattle.series.proofs.Series.steady_sum.Goals.{After-sum-sum}
use Rattle.series.proofs.Series.steady_sum.Goals as goal

-- ---- the group of a round, and those behind it
left : (groups : List Group) (i : ℕ) (beyond : Group) → i < length groups → (arguments : List ℤ) (q sum : ℤ)
    → Left arguments q (steady_terms groups) (steady_terms (drop i groups)) sum
    → Left arguments q (steady_terms groups) (group_terms (get_or groups i beyond) ++ steady_terms (drop (suc i) groups)) sum
left groups i beyond h arguments q sum l =
    subst (λ (ts : List Term). Left arguments q (steady_terms groups) ts sum) (groups-next groups i beyond h) l

pub sum-sum-requires : goal.sum-sum-requires
sum-sum-requires c =
    let i = c.loop-group.group-index in
    let groups = c.args.self.now.groups.now in
    let l = left groups i _ c.loop-group-test.true c.args.arguments.now (pos 0) (to_z w64 c.loop-group.sum-bits) (c.loop-group.invariant (pos 0)) in
    record {
      angles = c.requires.angles;
      each = c.requires.each i _ c.loop-group-test.true;
      light = (lights (group_terms (get_or groups i _)) (steady_terms (drop (suc i) groups)) l.1).0;
    }

-- ---- what it adds
module _ (c : After-sum-sum) where
  abbrev groups : List Group
  groups = c.args.self.now.groups.now

  abbrev arguments : List ℤ
  arguments = c.args.arguments.now

  abbrev i : ℕ
  i = c.loop-group.group-index

  abbrev whole : List Term
  whole = steady_terms groups

  abbrev own : List Term
  own = group_terms (get_or groups i (record { arguments = []; rows = record { ref_ptr = (0, 0); now = [] } }))

  abbrev others : List Term
  others = steady_terms (drop (suc i) groups)

  abbrev sum : ℤ
  sum = to_z w64 c.loop-group.sum-bits

  abbrev p : ℤ
  p = c.sum-sum.result

  p-fits : SFits w64 p
  p-fits = ok-fits p c.sum-sum.type_inv

  left_now : (q : ℤ) → Left arguments q whole (own ++ others) sum
  left_now q = left groups i _ c.loop-group-test.true arguments q sum (c.loop-group.invariant q)

  round-fits : SFits w64 (sum +ℤ p)
  round-fits = left-fits arguments (pos 0) whole own others sum p (left_now (pos 0)) (c.sum-sum.ensures (pos 0)) (omega arith) c.requires.light

  next : (q : ℤ) → Left arguments q whole others (sum +ℤ p)
  next q = left-next arguments q whole own others sum p (left_now q) (c.sum-sum.ensures q)

pub overflow_add-sum : goal.overflow_add-sum
overflow_add-sum c = simp (to_z-of_z, p-fits c) (round-fits c)

pub loop-group-preserved : goal.loop-group-preserved
loop-group-preserved c q = simp (to_z-of_z, p-fits c, round-fits c, add-one) (next c q)

pub returns : goal.returns
unfolding steady_terms
returns c =
    let groups = c.args.self.now.groups.now in
    let arguments = c.args.arguments.now in
    let ts = steady_terms groups in
    let sum = to_z w64 c.loop-group.sum-bits in
    let none = drop_of_length-le groups {i = c.loop-group.group-index} (omega arith) in
    let e : (q : ℤ) → sum ≡ total Sin arguments q ts = λ q. left-none arguments q ts sum (subst (λ (gs : List Group). Left arguments q ts (steady_terms gs) sum) none (c.loop-group.invariant q)) in
    (e, rw (e (pos 0)) (sum-le arguments (pos 0) (omega arith) ts))
