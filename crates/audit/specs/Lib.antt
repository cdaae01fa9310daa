pub mod Taken
pub mod Audits
pub mod Fits
