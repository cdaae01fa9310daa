mod SoundLaws
mod RecordPuts
mod FrontLaws
pub mod AnswerLaws
pub mod RoundLaws
