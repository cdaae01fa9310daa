pub mod RaiseLaws
pub mod CountLaws
pub mod SiteLaws
pub mod RoomLaws
pub mod KeptLaws
