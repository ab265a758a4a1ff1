pub mod NumbersHold
