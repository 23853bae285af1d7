pub mod Literals
pub mod Clauses
pub mod Chains
pub mod Gluing
