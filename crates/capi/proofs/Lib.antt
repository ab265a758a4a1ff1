pub mod ManyShots
