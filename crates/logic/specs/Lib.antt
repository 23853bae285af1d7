pub mod Literal
pub mod Clause
pub mod Chain
pub mod Gluing
pub mod Laws
