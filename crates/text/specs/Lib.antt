pub mod Put
pub mod Lines
pub mod Room
