mod NextLaws
pub mod RecordFaults
pub mod WholeLaws
