-- Contracts of public items and the trees of public types depend on these.
pub mod Kept
pub mod Nodes
pub mod Sections
