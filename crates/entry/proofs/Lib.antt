pub mod Blanks
pub mod Values
pub mod Reading
pub mod FieldKinds
pub mod WholeLine
pub mod Places
