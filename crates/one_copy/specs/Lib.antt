pub mod Types
pub mod Listed
pub mod OneCopy
pub mod Sessions
