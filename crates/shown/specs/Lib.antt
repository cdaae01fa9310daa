pub mod Heading
pub mod Dependence
pub mod Lines
pub mod Room
