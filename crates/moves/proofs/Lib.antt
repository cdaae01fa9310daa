pub mod KeyLaws
pub mod RoomLaws
pub mod TableLaws
pub mod WakeLaws
pub mod OpenLaws
pub mod CloseLaws
pub mod ServeLaws
