pub mod Bind
pub mod Digits
pub mod Exactly
