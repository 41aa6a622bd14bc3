pub mod Texts
pub mod Unique
pub mod Whole
