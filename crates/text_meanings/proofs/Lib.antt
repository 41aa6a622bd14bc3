pub mod Arrays
pub mod Laws
pub mod Whole
pub mod Unique
