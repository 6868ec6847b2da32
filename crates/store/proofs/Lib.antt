pub mod Queued
pub mod Held
