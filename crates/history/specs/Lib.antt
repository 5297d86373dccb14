pub mod Histories
pub mod Law
pub mod Keeping
pub mod Worked
pub mod Declines
