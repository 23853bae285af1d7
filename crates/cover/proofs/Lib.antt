pub mod Walks
pub mod Ends
pub mod Bits
pub mod Erases
pub mod Growth
pub mod Moves
pub mod Finishes
pub mod Conflicting
