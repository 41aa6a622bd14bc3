pub mod Bodies
pub mod Hole
pub mod Parts
pub mod Share
