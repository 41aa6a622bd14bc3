pub mod Chains
pub mod Unique
