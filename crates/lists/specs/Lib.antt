pub mod Count
pub mod Fill
pub mod Pick
pub mod Tabled
