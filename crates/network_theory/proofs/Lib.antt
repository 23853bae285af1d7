pub mod Places
pub mod Marks
pub mod Answered
pub mod Opens
pub mod Decided
pub mod Led
pub mod Kept
