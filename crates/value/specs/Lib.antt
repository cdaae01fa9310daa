pub mod View
pub mod Handed
