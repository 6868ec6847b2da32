pub mod SketchService
pub mod QueueService
