pub mod Outcome
pub mod Walk
pub mod Bits
pub mod Reading
pub mod Views
pub mod Left
pub mod Unread
