mod StandsLaws
mod ReadLaws
pub mod AnswerLaws
