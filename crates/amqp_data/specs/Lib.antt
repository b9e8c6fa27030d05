-- Definitions used by the contracts of public items, but for Index, KeyPositions and SortedHashes.
pub mod Compares
pub mod DescriptorParts
pub mod Fixed
pub mod FormatCode
pub mod Hexadecimal
pub mod Index
pub mod Items
pub mod Iterates
pub mod Lends
pub mod MapEntry
pub mod MapIters
pub mod MapLends
pub mod Pairs
pub mod KeyPositions
pub mod Displayed
pub mod SortedHashes
pub mod Text
