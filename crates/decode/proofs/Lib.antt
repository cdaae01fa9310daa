mod NextLaws
pub mod AskedLaws
