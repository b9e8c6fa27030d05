pub mod Reported
pub mod Visited
