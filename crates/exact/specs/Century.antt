-- Document 01, "Time" (RULES.md, "Units"): the century that rates of change are given for.
use Rattle.std.specs.Prelude.{ℕ}

-- 01's C: 36,525 days, in ms
abbrev pub century : ℕ
century = 3_155_760_000_000
