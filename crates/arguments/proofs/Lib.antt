pub mod AllReduced
