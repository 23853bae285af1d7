pub mod Sorted
pub mod Choices
pub mod Printed
pub mod Promises
pub mod Buffers
pub mod Account
pub mod Walks
pub mod Written
