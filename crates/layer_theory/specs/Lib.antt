pub mod Grouping
pub mod Commander
pub mod Tower
pub mod Theorems
