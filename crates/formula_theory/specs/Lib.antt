pub mod Writing
pub mod Faithful
pub mod Outcome
pub mod Promise
pub mod Counting
pub mod Examples
