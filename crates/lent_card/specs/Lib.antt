pub mod LentCard
pub mod LentHistory
