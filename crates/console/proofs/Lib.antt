pub mod Streaming
pub mod Putting
