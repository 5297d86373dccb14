pub mod Rows
pub mod Days
