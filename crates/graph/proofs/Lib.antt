pub mod SetLaws
pub mod ReachLaws
