-- `StepFigures`: the figures of the law of a step; `TableRule`: the list of entries, and what holds of each step of the table; `WholeFiveMinutes`: the entries that a table of 5′ has too.
pub mod StepFigures
pub mod TableRule
pub mod WholeFiveMinutes
