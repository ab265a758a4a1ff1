pub mod Step
pub mod SinePolynomial
pub mod Table
