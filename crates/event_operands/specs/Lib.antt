pub mod Address
pub mod Steps
