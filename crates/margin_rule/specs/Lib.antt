pub mod Meanings
pub mod Laws
pub mod Rules
pub mod Bounds
pub mod Keeping
