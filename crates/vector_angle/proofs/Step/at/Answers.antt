-- The entries do not fall from one to the next.
use Prim.Native.Nat.{◌+◌, ◌-◌, ◌≤◌}
use native.Mathlib.Omega.{arith}
use Rattle.sine_table.specs.Table.{step_count}
use Rattle.sine_table.proofs.TableRule.{entry-climbs}
use Rattle.vector_angle.proofs.Step.at.Goals.{After-entry_at, After-entry_at-2}
use Rattle.vector_angle.proofs.Step.at.Goals as goal

rises : (c : After-entry_at) → c.entry_at-sine.result ≤ c.entry_at.result
rises c =
    let n = c.args.n in
    rw (c.entry_at-sine.ensures.0, c.entry_at.ensures.0) (entry-climbs n (n + 1) (omega arith) (omega arith))

falls : (c : After-entry_at-2) → c.entry_at-2.result ≤ c.entry_at-cosine.result
falls c =
    let n = c.args.n in
    rw (c.entry_at-2.ensures.0, c.entry_at-cosine.ensures.0) (entry-climbs (step_count - n - 1) (step_count - n) (omega arith) (omega arith))

pub overflow_sub-rise : goal.overflow_sub-rise
overflow_sub-rise c = rises c

pub overflow_sub-fall : goal.overflow_sub-fall
overflow_sub-fall c = falls c

pub invariant_of-result-clause-is_step : goal.invariant_of-result-clause-is_step
invariant_of-result-clause-is_step c =
    let rise : c.entry_at-sine.result ≤ c.entry_at.result = rises c.before in
    let fall = falls c in
    record {
      sine = c.entry_at-sine.ensures.0;
      cosine = c.entry_at-cosine.ensures.0;
      next-sine = omega (arith, rise, c.entry_at.ensures.0);
      next-cosine = omega (arith, fall, c.entry_at-2.ensures.0);
      sine-range = omega (arith, rise, c.entry_at.ensures.1);
      cosine-range = c.entry_at-cosine.ensures.1;
    }
