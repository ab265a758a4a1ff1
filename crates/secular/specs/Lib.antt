pub mod FlooredPolynomial
pub mod Sizes
