pub mod Arrays
pub mod Laws
pub mod Unique
