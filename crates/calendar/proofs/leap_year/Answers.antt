use borrow.Author.Tests.{eq-eqb, ne_eqb}
use Rattle.calendar.specs.Date.{leap_year}
use Rattle.calendar.proofs.leap_year.Goals as goal

pub returns-then-year-ne0 : goal.returns-then-year-ne0
unfolding leap_year
returns-then-year-ne0 c = simp (eq-eqb _ _ c.before.if-year-eq0.true, ne_eqb _ _ c.if-year-ne0.true)

pub returns-else-year-ne0 : goal.returns-else-year-ne0
unfolding leap_year
returns-else-year-ne0 c = simp (eq-eqb _ _ c.before.if-year-eq0.true, eq-eqb _ _ c.if-year-ne0.false)

pub returns-else-year-eq0 : goal.returns-else-year-eq0
unfolding leap_year
returns-else-year-eq0 c = simp (ne_eqb _ _ c.if-year-eq0.false)
