-- Contracts of public items depend on these.
pub mod HasImage
pub mod FieldTrees
pub mod ShapeTrees
pub mod FromReader
pub mod Entries
pub mod Limited
pub mod LocatedErrors
