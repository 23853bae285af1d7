pub mod Bytes
pub mod Clauses
pub mod File
pub mod Written
pub mod Steps
pub mod Reading
pub mod Laws
