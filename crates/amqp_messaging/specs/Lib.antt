pub mod Messages
pub mod Parts
pub mod Sections
pub mod Unknown
