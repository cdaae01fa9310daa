pub mod Places
pub mod Descent
