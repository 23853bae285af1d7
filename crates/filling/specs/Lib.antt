pub mod Filled
pub mod Views
