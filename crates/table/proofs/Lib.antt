pub mod SearchLaws
pub mod GapLaws
