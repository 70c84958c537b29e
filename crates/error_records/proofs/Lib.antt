pub mod Rows
pub mod RoomLaws
pub mod RecordLaws
