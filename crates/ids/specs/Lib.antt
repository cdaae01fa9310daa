pub mod Limits
pub mod Made
