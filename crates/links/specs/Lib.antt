pub mod Links
pub mod Places
