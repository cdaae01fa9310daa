pub mod SeenLaws
pub mod AskLaws
pub mod StandLaws
pub mod EnterLaws
pub mod LeaveLaws
pub mod BackLaws
