pub mod StepLaws
pub mod WithinLaws
