pub mod CountLaws
pub mod FillLaws
pub mod PickLaws
pub mod BlockLaws
pub mod TellLaws
pub mod TabledLaws
pub mod PlaceLaws
