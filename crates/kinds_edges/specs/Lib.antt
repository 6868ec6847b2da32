pub mod Rooms
pub mod When
