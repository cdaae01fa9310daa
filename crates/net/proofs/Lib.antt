pub mod AnsweredLaws
pub mod EmptyLaws
pub mod ValueLaws
pub mod Demands
