pub mod Steady
pub mod Turn
pub mod Room
