pub mod Editions
