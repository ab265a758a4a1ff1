pub mod ByTheShot
