pub mod TellLaws
pub mod CalledLaws
pub mod DependsLaws
