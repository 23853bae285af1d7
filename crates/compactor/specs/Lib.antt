pub mod Printed
pub mod Kept
