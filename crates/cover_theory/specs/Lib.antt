pub mod Parts
pub mod Rule
pub mod Lies
pub mod Rows
pub mod Examples
