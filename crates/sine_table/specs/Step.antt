-- Document 01, "The sine", and document 02, request 5 (RULES.md, "The sine"): the table's step. For a table of another step this number changes, and
-- src/entries.rt, which tools/sine-table.py writes.
use Rattle.std.specs.Prelude.{ℕ}

-- 1′, in units of 0.0001″
abbrev pub step : ℕ
step = 600_000
