pub mod Numerals
pub mod Lines
pub mod Runs
pub mod Readings
pub mod SketchLines
pub mod QueueLines
pub mod LineReadings
pub mod Texts
