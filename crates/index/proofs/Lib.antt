pub mod Finding
pub mod Layouts
pub mod Counting
pub mod Promises
