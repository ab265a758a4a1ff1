-- The theorems: `SineBound` (demand 3, first half), `Monotonicity` (Sin does not fall on 0..Q, Cos does not rise), `Pythagoras` (Sin² + Cos² is close to R²).
-- What they stand on. `Quadrant`, `Extension`: Sin and Cos on 0..Q and over the turn; `Chord`, `Terms`, `Rounding`: powers, the polynomial's terms and a
-- table's roundings; `Squares`: sums of squares along a chord.
pub mod Quadrant
pub mod Extension
pub mod Monotonicity
pub mod Chord
pub mod Terms
pub mod Rounding
pub mod SineBound
pub mod Squares
pub mod Pythagoras
