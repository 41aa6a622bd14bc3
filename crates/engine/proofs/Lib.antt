pub mod LentLaws
pub mod PartLaws
pub mod Touches
pub mod Unique
