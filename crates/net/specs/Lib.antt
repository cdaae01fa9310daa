pub mod Public
pub mod Demands
