pub mod Rows
pub mod Chosen
