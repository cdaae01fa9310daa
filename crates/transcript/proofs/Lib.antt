pub mod RanLaws
pub mod OnceLaws
