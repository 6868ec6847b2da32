pub mod Holding
pub mod Meaning
