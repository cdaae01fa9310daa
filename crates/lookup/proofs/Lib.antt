pub mod SearchLaws
pub mod FoundLaws
