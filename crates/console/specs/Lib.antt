pub mod Fronts
pub mod Streams
pub mod Texts
