pub mod BrokenLaws
pub mod HeldLaws
pub mod PartLaws
pub mod ReadyLaws
