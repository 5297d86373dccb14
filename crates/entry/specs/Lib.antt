pub mod Entries
pub mod Faults
pub mod Fields
pub mod Letters
pub mod Lines
