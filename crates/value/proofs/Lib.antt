pub mod NodeLaws
pub mod ToldLaws
