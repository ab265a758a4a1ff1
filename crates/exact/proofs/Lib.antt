-- The kit. `Differences`: the technique, for statements over ℤ; `Products`: products and squares of natural numbers; `Integers`, `Floor`, `Division`, `Reduction`: laws of
-- ℤ, of the two divisions and of angles; `Quotient`, `Machine`: the machine's division, and what an `i64` holds; `Largest`, `Newton`: the largest number that
-- passes a test, and the root; `AllBelow`: a rule of every number, from one test; `Choice`: what a result says of the test that chose it.
pub mod Differences
pub mod Products
pub mod Integers
pub mod Floor
pub mod Division
pub mod Reduction
pub mod Quotient
pub mod Machine
pub mod Largest
pub mod Newton
pub mod AllBelow
pub mod Choice
