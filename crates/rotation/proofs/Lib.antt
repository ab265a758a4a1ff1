-- `Growth` is the theorem. What it stands on. `Components`: a rotated direction by its components; `Sizes`: bounds on components and sums.
pub mod Components
pub mod Growth
pub mod Sizes
