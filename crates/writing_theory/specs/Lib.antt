pub mod Listed
pub mod Remaining
pub mod Covering
pub mod Completing
pub mod Contract
