mod WentLaws
pub mod LinesLaws
